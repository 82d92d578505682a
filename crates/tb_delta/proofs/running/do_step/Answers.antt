use Rattle.tb_delta.proofs.Changed.{from_left, from_right}
use Rattle.tb_delta.proofs.running.do_step.Goals as goal
