use Rattle.std.proofs.Common.{List, sym, subst}
use Rattle.tb_chunk.specs.Promise.Col.{Col}
use Rattle.tb_frame.specs.declared.args.JoinType.TheVariants.{Full}
use Rattle.tb_dispatch.specs.Given.{CanCoalesce, IsFullJoin, StandBeside, by_series}
use Rattle.tb_dispatch.proofs.dispatch.JoinDispatch._full_join_from_series.Goals as goal

pub full_join_by-requires-clause-keys : goal.full_join_by-requires-clause-keys
full_join_by-requires-clause-keys g c κs within = subst (λ (cs : List Col). StandBeside cs c.args.other.now c.args.s_left.now c.args.s_right.now) (sym c.to_df.ensures) c.requires.keys

pub full_join_by-requires-clause-coalescing : goal.full_join_by-requires-clause-coalescing
full_join_by-requires-clause-coalescing g c κs within = subst (λ (cs : List Col). CanCoalesce (by_series Full cs c.args.other.now c.args.s_left.now c.args.s_right.now c.args.args)) (sym c.to_df.ensures) c.requires.coalescing

pub returns : goal.returns
returns g c = subst (λ (cs : List Col). IsFullJoin cs c.args.other.now c.args.s_left.now c.args.s_right.now c.args.args c.full_join_by.result) c.to_df.ensures c.full_join_by.ensures
