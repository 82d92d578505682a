use Rattle.std.proofs.Common.{◌+◌, ◌-◌, ◌*◌, length}
use Rattle.tb_pool.proofs.workers.+halves.Given as goal

abbrev pub decreases-run_workers : goal.decreases-run_workers
decreases-run_workers g l = 4 * length l.workers.now

abbrev pub decreases-run_halves : goal.decreases-run_halves
decreases-run_halves g l = 4 * (length l.a.now + length l.b.now) - 1

abbrev pub decreases-run_halves-front : goal.decreases-run_halves-front
decreases-run_halves-front g l = 4 * length l.a.now + 1

abbrev pub decreases-run_halves-back : goal.decreases-run_halves-back
decreases-run_halves-back g l = 4 * length l.b.now + 1
