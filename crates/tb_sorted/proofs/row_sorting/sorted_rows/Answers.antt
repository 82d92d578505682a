use Rattle.std.proofs.Common.{rules}
use Rattle.tb_sorted.proofs.Places.{sorted_by_key}
use Rattle.tb_sorted.proofs.row_sorting.sorted_rows.Goals as goal

pub returns : goal.returns
returns g c =
    let laws = g.met.N.WholeCell g.world.𝓛 g.world.𝓜 g.world.𝓡 ((λ s x. x), (λ x. x), (λ x. x), λ x. x) in
    sorted_by_key g.N.Ord.cmp g.N.WholeCell.number laws.ordered
    _ _ (g.K.NumberList.keys c.args.list.now) c.in_ok-rows.rows.items c.sort_by_key.new.self.items c.in_ok-rows.ensures.rows c.sort_by_key.ensures.permutation c.in_ok-sort_by_key.ensures.sorted c.sort_by_key.ensures.stable
    (λ a r q k. search rules)
