-- The causes of a refusal: those that the names of the keys decide, the others, and the size alone.
use Rattle.std.specs.Prelude.{ℕ, nat_lt, List, ◌++◌, Option}
use Rattle.tb_value.specs.Promise.Names.{Name}
use Rattle.tb_value.specs.Promise.Refusals.{first_cause, when}
use Rattle.tb_value.specs.declared.error.ComputeCause.TheVariants.{TooManyRows}
use Rattle.tb_value.specs.declared.error.PolarsError.{PolarsError}
use Rattle.tb_value.specs.declared.error.PolarsError.TheVariants.{ComputeError}
use Rattle.tb_value.specs.declared.limits.TheConstants.{MAX_ROWS}
use Rattle.tb_frame.specs.Promise.Join.{Request}
use Rattle.tb_frame.specs.Promise.Refusal.{name_causes, list_causes, column_causes, row_causes}
use Rattle.tb_frame.specs.Promise.Table.{Table}
use Rattle.tb_frame.specs.declared.null_flags.JoinNulls.{JoinNulls}

-- a key is unknown, there is none, there are more on one side, there are more or fewer flags, or a key is repeated
abbrev pub names_refusal : Table → Table → JoinNulls → List Name → List Name → Option PolarsError
names_refusal left right nulls left_on right_on =
    first_cause (name_causes left right left_on right_on ++ list_causes nulls left_on right_on)

-- the types of the keys, the names of the answer, the sides that are to have no twins, and the size
abbrev pub later_refusal : Request → Option PolarsError
later_refusal q = first_cause (column_causes q ++ row_causes q)

-- so many pairs are too many
abbrev pub too_many : ℕ → Option PolarsError
too_many n = when (nat_lt MAX_ROWS n) (ComputeError TooManyRows)
