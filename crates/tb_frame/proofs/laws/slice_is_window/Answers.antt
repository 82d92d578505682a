use Rattle.tb_frame.proofs.Windows.{slice_window}
use Rattle.tb_frame.proofs.laws.slice_is_window.Goals as goal

pub returns : goal.returns
returns g c = λ xs offset len. slice_window xs offset len
