use Rattle.tb_plan_request.proofs.ByMembers.{reads}
use Rattle.tb_plan_request.proofs.laws.by_members.Goals as goal

pub returns : goal.returns
returns c = reads
