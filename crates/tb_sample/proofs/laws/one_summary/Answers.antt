use Rattle.tb_sample.proofs.Exact.{one_summary}
use Rattle.tb_sample.proofs.laws.one_summary.Goals as goal

pub returns : goal.returns
returns c = one_summary
