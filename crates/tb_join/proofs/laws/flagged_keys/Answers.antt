use Rattle.std.proofs.Common.{refl}
use Rattle.tb_join.proofs.laws.flagged_keys.Goals as goal

pub returns-clause-pairs : goal.returns-clause-pairs
returns-clause-pairs c = (refl, refl, refl)

pub returns-clause-twins : goal.returns-clause-twins
returns-clause-twins c = (refl, refl)

pub returns-clause-refused : goal.returns-clause-refused
returns-clause-refused c = (refl, refl, refl)
