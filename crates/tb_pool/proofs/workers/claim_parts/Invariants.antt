use Rattle.std.proofs.Common.{◌-◌}
use Rattle.tb_pool.specs.Workers.{IsLetIn}
use Rattle.tb_pool.proofs.Worked.{above, IsAtWork}
use Rattle.tb_pool.proofs.workers.claim_parts.Given as goal

abbrev pub invariant-loop-part : goal.invariant-loop-part
invariant-loop-part g l = IsAtWork (IsLetIn (g.G.Gate.lets_in l.gate) (g.P.Parts.gives l.work)) l.claims l.initial.worker l.worker

abbrev pub decreases-loop-part : goal.decreases-loop-part
decreases-loop-part g l = l.claims.bound - above l.worker.seat.drawn
