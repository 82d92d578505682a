use Rattle.tb_delta.proofs.TablesNow.{made_anew}
use Rattle.tb_delta.proofs.laws.made_anew.Goals as goal

pub returns : goal.returns
returns c = made_anew
