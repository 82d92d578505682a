use Rattle.std.proofs.Common.{refl}
use Rattle.tb_supertype.proofs.laws.lines.Goals as goal

pub returns : goal.returns
returns c = (refl, refl, refl, refl, refl, refl, refl, refl, refl, refl, refl, refl, refl, refl, refl, refl, refl, refl, refl, refl, refl)
