use Rattle.tb_csv.proofs.CellsBack.{value_back}
use Rattle.tb_csv.proofs.laws.cells_back.Goals as goal

pub returns : goal.returns
returns c = value_back
