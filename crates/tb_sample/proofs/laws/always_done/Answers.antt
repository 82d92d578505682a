use Rattle.tb_sample.proofs.Answered.{some_summary}
use Rattle.tb_sample.proofs.Pairs.{valid}
use Rattle.tb_sample.proofs.laws.always_done.Goals as goal

pub returns-clause-valid : goal.returns-clause-valid
returns-clause-valid c = valid

pub returns-clause-summary : goal.returns-clause-summary
returns-clause-summary c = some_summary
