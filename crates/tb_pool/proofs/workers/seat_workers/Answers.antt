use Rattle.std.proofs.Common.{◌≡◌, ◌≤◌, ◌-◌, suc, ◌+◌, ◌∷◌, [], length, sym, ap, ◌∙◌, subst, arith, length-append}
use Rattle.std.specs.Prelude.{All, sum_by}
use Rattle.std.proofs.lemmas.List.Sums.{sum_by-cons}
use Rattle.std.proofs.lemmas.List.Elements.{All-push, All-cons}
use Rattle.tb_pool.specs.declared.workers.Worker.{Worker}
use Rattle.tb_pool.specs.Running.{SeatView}
use Rattle.tb_pool.specs.Workers.{IsReady}
use Rattle.tb_pool.proofs.Seated.{weights_more, ready}
use Rattle.tb_pool.proofs.workers.seat_workers.Goals as goal

pub loop-i-preserved : goal.loop-i-preserved
loop-i-preserved g c =
    let k = c.loop-i.invariant in
    let s = c.split-seat.ensures in
    let e = c.new_worker.ensures in
    let p = c.in_ok-push.ensures.items in
    let lighter : c.split-seat.new.seat.weight ≡ c.loop-i.first.weight - 1 = s.kept.2 in
    let kf = k.first in
    let kc = k.count in
    let some : 1 ≤ c.loop-i.first.weight = omega arith in
    let one : c.new_worker.result.seat.weight ≡ 1 = ap (λ (t : SeatView). t.weight) e.0 ∙ s.given.2 in
    let longer = c.in_ok-push.ensures.len in record {
      own = s.kept.0;
      none = s.kept.1 ∙ k.none;
      ready = subst (All (IsReady c.args.claims.now)) (sym p) (All-push (IsReady c.args.claims.now) c.loop-i.workers.items c.new_worker.result k.ready (ready c.args.claims.now c.split-seat.result c.new_worker.result s.given.0 s.given.1 e.0 e.1 e.2 e.3));
      weights = weights_more c.loop-i.workers.items _ c.new_worker.result _ _ p one lighter some k.weights;
      first = (let n : length c.push.new.self.items ≡ length c.loop-i.workers.items + 1 = ap length p ∙ length-append c.loop-i.workers.items (c.new_worker.result ∷ []) in omega arith);
      count = (let n : length c.push.new.self.items ≡ length c.loop-i.workers.items + 1 = ap length p ∙ length-append c.loop-i.workers.items (c.new_worker.result ∷ []) in omega arith);
    }

pub returns : goal.returns
returns g c =
    let k = c.loop-i.invariant in
    let e = c.new_worker-2.ensures in
    let p = c.in_ok-insert.ensures.items in
    let ws = c.loop-i.workers.items in
    let w = c.new_worker-2.result in
    let kc = k.count in
    let kw = k.weights in
    let f = λ (u : Worker g.row.O.Denot). u.seat.weight in
    let n : length c.insert.new.self.items ≡ suc (length ws) = ap length p in
    let all : sum_by f c.insert.new.self.items ≡ f w + sum_by f ws = ap (sum_by f) p ∙ sum_by-cons f w ws in
    let one : f w ≡ c.loop-i.first.weight = ap (λ (t : SeatView). t.weight) e.0 in (
      omega arith,
      subst (All (IsReady c.args.claims.now)) (sym p) (All-cons (IsReady c.args.claims.now) w ws (ready c.args.claims.now c.loop-i.first w k.own k.none e.0 e.1 e.2 e.3) k.ready),
      omega arith,
    )
