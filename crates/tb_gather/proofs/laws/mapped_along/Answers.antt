use Rattle.tb_gather.proofs.Cuts.{along-id}
use Rattle.tb_gather.proofs.laws.mapped_along.Goals as goal

pub returns : goal.returns
returns _ before after id same named = along-id before after id same named
