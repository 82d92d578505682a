use Rattle.std.proofs.Common.{refl}
use Rattle.tb_unpivot.proofs.laws.folds.Goals as goal

pub returns : goal.returns
returns c = (refl, refl, refl, refl, refl, refl, refl, refl)
