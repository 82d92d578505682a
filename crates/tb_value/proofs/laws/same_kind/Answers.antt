use Rattle.tb_value.specs.Proved.TypeTests.{same_kind-Decides}
use Rattle.tb_value.proofs.laws.same_kind.Goals as goal

pub returns : goal.returns
returns c = same_kind-Decides
