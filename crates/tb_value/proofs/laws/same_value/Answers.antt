use Rattle.tb_value.specs.Proved.ValueTests.{same-Decides}
use Rattle.tb_value.proofs.laws.same_value.Goals as goal

pub returns : goal.returns
returns c = same-Decides
