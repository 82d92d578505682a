use Rattle.std.proofs.Common.{◌≡◌, rules}
use Rattle.std.specs.Ordering.{is_lt, is_le}
use Rattle.std.proofs.lemmas.Fn.{always_returns_same}
use Rattle.tb_alone.proofs.InOrder.{run-of_all}
use Rattle.tb_alone.proofs.table.run_of.Goals as goal

pub returns : goal.returns
returns g c =
    let cmp = g.K.Ord.cmp in
    let k = c.args.key.now in
    run-of_all g.K.PartialEq.eq cmp g.met.K.Ord.total g.met.K.Ord.matches_eq c.args.keys.now c.requires.sorted k c.partition_point-from.result c.partition_point-to.result
    c.partition_point-from.ensures.bound c.partition_point-to.ensures.bound
    (c.partition_point-from.ensures.partitioned (λ x. is_lt (cmp x k)) (always_returns_same _ (λ a r. r ≡ is_lt (cmp a.0.now k)) _ (λ a r f q. search rules)))
    (c.partition_point-to.ensures.partitioned (λ x. is_le (cmp x k)) (always_returns_same _ (λ a r. r ≡ is_le (cmp a.0.now k)) _ (λ a r f q. search rules)))
