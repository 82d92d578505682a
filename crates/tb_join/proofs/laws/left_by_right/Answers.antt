use Rattle.tb_join.proofs.RowProofs.{right_last}
use Rattle.tb_join.proofs.laws.left_by_right.Goals as goal

pub returns : goal.returns
returns c = right_last
