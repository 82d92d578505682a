use Rattle.tb_join.proofs.RowProofs.{full_apart, full_merged}
use Rattle.tb_join.proofs.laws.full_right_left.Goals as goal

pub returns : goal.returns
returns c = (full_apart, full_merged)
