use Rattle.tb_rows.proofs.Listed.{firsts_listed, groups_listed}
use Rattle.tb_rows.proofs.laws.places_are_rows.Goals as goal

pub returns : goal.returns
returns g = λ test same rows. (firsts_listed test same rows, groups_listed test same rows)
