use Rattle.tb_csv.proofs.RecordsBack.{records_back}
use Rattle.tb_csv.proofs.laws.records_back.Goals as goal

pub returns : goal.returns
returns c = records_back
