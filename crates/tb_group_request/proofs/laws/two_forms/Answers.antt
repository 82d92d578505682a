use Rattle.tb_group_request.proofs.TwoForms.{group_same}
use Rattle.tb_group_request.proofs.laws.two_forms.Goals as goal

pub returns : goal.returns
returns c = group_same
