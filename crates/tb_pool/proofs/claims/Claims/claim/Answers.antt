use Rattle.std.proofs.Common.{◌≡◌, ◌<◌, subst, rules}
use Rattle.tb_pool.specs.Core.{late_count}
use Rattle.tb_pool.proofs.Steps.{draws}
use Rattle.tb_pool.proofs.claims.Claims.claim.Goals as goal

pub fetch_add-found-requires : goal.fetch_add-found-requires
fetch_add-found-requires c =
    let key : c.self.inside.table.shared.key ≡ c.args.self.now.bound = search rules in
    let drawn : c.seat.inside.seat.me.0.drawn ≡ c.args.seat.now.drawn = search rules in
    let same : late_count c.self.inside.table.shared.key c.seat.inside.seat.me.0.drawn ≡ late_count c.args.self.now.bound c.args.seat.now.drawn = λ i. late_count (key i) (drawn i) in
    (search rules, search rules, draws _ _ _ _ c.seat.invariant.1 (λ past. c.requires.early (subst (λ k. 0 < k) same past)))
