use Rattle.std.proofs.Common.{◌≡◌, ◌+◌, [], length}
use Rattle.std.specs.Prelude.{All, sum_by}
use Rattle.tb_pool.specs.Running.{IsSeatOf}
use Rattle.tb_pool.specs.Workers.{IsReady}
use Rattle.tb_pool.proofs.workers.seat_workers.Given as goal

abbrev pub invariant-loop-i : goal.invariant-loop-i
invariant-loop-i g l = record {
  own : IsSeatOf l.claims l.first;
  none : l.first.drawn ≡ [];
  ready : All (IsReady l.claims) l.workers.items;
  weights : sum_by (λ w. w.seat.weight) l.workers.items + l.first.weight ≡ 1024;
  first : length l.workers.items + l.first.weight ≡ 1024;
  count : length l.workers.items + 1 ≡ l._i;
}
