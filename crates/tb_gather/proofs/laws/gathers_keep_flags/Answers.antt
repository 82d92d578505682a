use Rattle.tb_gather.proofs.Flags.{gathered-flag}
use Rattle.tb_gather.proofs.laws.gathers_keep_flags.Goals as goal

pub returns : goal.returns
returns _ c ids sorted column some named runs = gathered-flag c ids sorted column some named runs
