use Rattle.tb_delta_request.proofs.TwoForms.{delta_same}
use Rattle.tb_delta_request.proofs.laws.two_forms.Goals as goal

pub returns : goal.returns
returns c = delta_same
