use Rattle.tb_why.proofs.InsidePlaces.{each_has_a_place}
use Rattle.tb_why.proofs.laws.each_reason_has_a_place.Goals as goal

pub returns : goal.returns
returns c = each_has_a_place
