use Rattle.tb_csv.proofs.CutText.{pieces_fit}
use Rattle.tb_csv.proofs.laws.pieces_fit.Goals as goal

pub returns : goal.returns
returns c = pieces_fit
