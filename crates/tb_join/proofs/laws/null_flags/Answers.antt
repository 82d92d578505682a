use Rattle.tb_join.proofs.EqualFlags.{equal_flags}
use Rattle.tb_join.proofs.laws.null_flags.Goals as goal

pub returns : goal.returns
returns c = equal_flags
