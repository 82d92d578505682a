use Rattle.tb_supertype.proofs.Casts.{casts_on, cast_typed}
use Rattle.tb_supertype.proofs.laws.cast_typed.Goals as goal

pub returns-clause-typed : goal.returns-clause-typed
returns-clause-typed c = cast_typed

pub returns-clause-on : goal.returns-clause-on
returns-clause-on c = casts_on
