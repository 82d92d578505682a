use Rattle.tb_plan_request.proofs.TwoForms.{plan_same}
use Rattle.tb_plan_request.proofs.laws.two_forms.Goals as goal

pub returns : goal.returns
returns c = plan_same
