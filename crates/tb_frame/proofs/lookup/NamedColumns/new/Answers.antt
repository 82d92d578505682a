use Rattle.tb_frame.proofs.ByName.{kept-none}
use Rattle.tb_frame.proofs.lookup.NamedColumns.new.Goals as goal

pub returns : goal.returns
returns c = λ n. kept-none c.new.result n c.new.ensures.empty
