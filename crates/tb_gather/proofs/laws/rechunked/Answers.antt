use Rattle.tb_gather.proofs.Cuts.{gathered-along}
use Rattle.tb_gather.proofs.laws.rechunked.Goals as goal

pub returns : goal.returns
returns _ c chunks runs ids along sorted same_values same = gathered-along c chunks runs ids along sorted same_values same
