use Rattle.tb_join.proofs.EachOnce.{each_once}
use Rattle.tb_join.proofs.laws.each_once.Goals as goal

pub returns : goal.returns
returns c = each_once
