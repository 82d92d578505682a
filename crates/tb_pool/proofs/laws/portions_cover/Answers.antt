use Rattle.tb_pool.proofs.Cover.{cover}
use Rattle.tb_pool.proofs.laws.portions_cover.Goals as goal

pub returns : goal.returns
returns c = λ len n some. cover len n some
