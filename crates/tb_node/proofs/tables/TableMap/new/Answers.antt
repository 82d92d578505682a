use Rattle.tb_node.proofs.ByName.{kept-none}
use Rattle.tb_node.proofs.tables.TableMap.new.Goals as goal

pub returns : goal.returns
returns c = λ n. kept-none c.new.result n c.new.ensures.empty
