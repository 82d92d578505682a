use Rattle.std.proofs.Common.{Err, ap}
use Rattle.tb_request.proofs.FromBytes.{not_read, text_read}
use Rattle.tb_request.proofs.reading.value_of.Goals as goal

pub returns-in-Ok : goal.returns-in-Ok
returns-in-Ok c = text_read _ _ c.in-Ok.ensures.ok.0 c.in-Ok.ensures.ok.1

pub returns-in-NoJson : goal.returns-in-NoJson
returns-in-NoJson c = not_read c.args.bytes.now (c.in-Err.ensures.err (ap Err c.in-NoJson.is))
