use Rattle.std.proofs.Common.{List, sym, subst}
use Rattle.tb_chunk.specs.Promise.Col.{Col}
use Rattle.tb_frame.specs.Join.{CoalescesAlike}
use Rattle.tb_dispatch.specs.Given.{IsGivenJoin, given_request}
use Rattle.tb_dispatch.proofs.given.GivenJoin._join_impl.Goals as goal

pub join_given-requires-clause-coalescing : goal.join_given-requires-clause-coalescing
join_given-requires-clause-coalescing g c κs within = subst (λ (cs : List Col). CoalescesAlike (given_request cs c.args.other.now c.args.selected_left.items c.args.selected_right.items c.args.args)) (sym c.to_df-left.ensures) c.requires

pub returns : goal.returns
returns g c = subst (λ (cs : List Col). IsGivenJoin cs c.args.other.now c.args.selected_left.items c.args.selected_right.items c.args.args c.join_given.result) c.to_df-left.ensures c.join_given.ensures
