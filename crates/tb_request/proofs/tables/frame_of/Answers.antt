use Rattle.tb_request.proofs.Refused.{frame_passes, frame_refused}
use Rattle.tb_request.proofs.tables.frame_of.Goals as goal

pub returns-in-Ok-clause-frame : goal.returns-in-Ok-clause-frame
returns-in-Ok-clause-frame c = frame_passes _ c.in-Ok.ensures.settles

pub returns-in-Err-clause-frame : goal.returns-in-Err-clause-frame
returns-in-Err-clause-frame c = rw c.fault_of.ensures (frame_refused _ c.in-Err.error c.in-Err.ensures.settles)
