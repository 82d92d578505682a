use Rattle.tb_frame.proofs.Validity.{some_answer}
use Rattle.tb_join.proofs.laws.some_answer.Goals as goal

pub returns : goal.returns
returns c = λ q left right alike valid. some_answer q valid left right alike
