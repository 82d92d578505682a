use Rattle.tb_run.proofs.TwoForms.{two_forms}
use Rattle.tb_run.proofs.laws.two_forms.Goals as goal

pub returns : goal.returns
returns c = two_forms
