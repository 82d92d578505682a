use Rattle.std.proofs.Common.{rules}
use Rattle.tb_build.proofs.PackedSort.{keeps-by_key, sorts-by_key}
use Rattle.tb_alone.proofs.table.sort_items.Goals as goal

pub returns-clause-sorted : goal.returns-clause-sorted
returns-clause-sorted g c =
    sorts-by_key g.K.PartialEq.eq g.K.Ord.cmp g.met.K.Ord.total g.met.K.Ord.matches_eq _ _ c.sort_by_key.new.self c.in_ok-sort_by_key.ensures.sorted
    (λ a r q k. search rules)

pub returns-clause-kept : goal.returns-clause-kept
returns-clause-kept g c =
    keeps-by_key g.K.PartialEq.eq g.K.Ord.cmp g.met.K.Ord.total g.met.K.Ord.matches_eq _ _ c.args.items.now c.sort_by_key.new.self c.sort_by_key.ensures.stable
    (λ a r q k. search rules)
