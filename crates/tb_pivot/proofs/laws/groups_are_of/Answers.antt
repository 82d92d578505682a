use Rattle.tb_pivot.proofs.Groups.{are_groups_of}
use Rattle.tb_pivot.proofs.laws.groups_are_of.Goals as goal

pub returns : goal.returns
returns c = λ test same n g groups few. are_groups_of test same n g groups few
