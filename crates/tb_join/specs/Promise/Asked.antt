-- The arguments of a join of a kind with nothing else asked.
use Rattle.std.specs.Prelude.{false, None}
use Rattle.tb_frame.specs.declared.args.JoinArgs.{JoinArgs}
use Rattle.tb_frame.specs.declared.args.JoinType.{JoinType}
use Rattle.tb_frame.specs.declared.args.JoinValidation.TheVariants.{ManyToMany}
use Rattle.tb_frame.specs.declared.args.JoinCoalesce.TheVariants.{JoinSpecific}
use Rattle.tb_frame.specs.declared.args.MaintainOrderJoin.TheVariants as order
use Rattle.tb_frame.specs.declared.null_flags.JoinNulls.TheVariants.{All}

abbrev pub plain_args : JoinType → JoinArgs
plain_args how = record
    { how = how; validation = ManyToMany; suffix = None; slice = None; join_nulls = All false; coalesce = JoinSpecific; maintain_order = order.None }
