use Rattle.tb_delta.proofs.Collected.{collected}
use Rattle.tb_delta.proofs.taking_up.map_of.Goals as goal

pub returns : goal.returns
returns c = collected c.args.entries.items c.in_ok-collected.field-0 c.in_ok-collected.ensures c.requires
