use Rattle.tb_run.proofs.OneStatus.{one_status}
use Rattle.tb_run.proofs.laws.one_status.Goals as goal

pub returns : goal.returns
returns c = one_status c.args.words.now c.args.bytes.now
