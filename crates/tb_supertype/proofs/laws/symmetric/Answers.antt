use Rattle.tb_supertype.proofs.Casts.{supertype_symmetric}
use Rattle.tb_supertype.proofs.laws.symmetric.Goals as goal

pub returns : goal.returns
returns c = supertype_symmetric
