use Rattle.tb_rowkey.proofs.Rows.{keys_meet}
use Rattle.tb_rowkey.proofs.laws.keys_match.Goals as goal

pub returns : goal.returns
returns c = keys_meet
