use Rattle.std.proofs.Common.{refl}
use Rattle.tb_join.proofs.laws.validations.Goals as goal

pub returns : goal.returns
returns c = (refl, refl, refl, refl)
