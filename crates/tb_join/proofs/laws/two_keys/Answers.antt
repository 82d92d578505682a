use Rattle.tb_join.proofs.RowProofs.{two_keys_answer}
use Rattle.tb_join.proofs.laws.two_keys.Goals as goal

pub returns : goal.returns
returns c = two_keys_answer
