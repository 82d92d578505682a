use Rattle.std.proofs.Common.{◌≡◌, ◌<◌, ◌≤◌, subst, rules}
use Rattle.tb_pool.specs.Core.{late_count}
use Rattle.tb_pool.proofs.Steps.{gives}
use Rattle.tb_pool.proofs.claims.Claims.split.Goals as goal

pub split_seat-other-requires : goal.split_seat-other-requires
split_seat-other-requires c =
    let key : c.self.inside.table.shared.key ≡ c.args.self.now.bound = search rules in
    let drawn : c.seat.inside.seat.me.0.drawn ≡ c.args.seat.now.drawn = search rules in
    let same : late_count c.self.inside.table.shared.key c.seat.inside.seat.me.0.drawn ≡ late_count c.args.self.now.bound c.args.seat.now.drawn = λ i. late_count (key i) (drawn i) in
    let heavy : 2 ≤ c.seat.inside.seat.me.0.weight = search rules in
    (search rules, search rules, gives _ _ _ (λ past. c.requires.early (subst (λ k. 0 < k) same past)) heavy)
