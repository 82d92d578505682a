use Rattle.std.proofs.Common.{refl}
use Rattle.tb_join.proofs.laws.refusals.Goals as goal

pub returns-clause-keys : goal.returns-clause-keys
returns-clause-keys c = (refl, refl, refl, refl)

pub returns-clause-columns : goal.returns-clause-columns
returns-clause-columns c = (refl, refl, refl)
