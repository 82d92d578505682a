use Rattle.tb_csv.proofs.MarksFit.{marks_count}
use Rattle.tb_csv.proofs.ReadRecords.{lines_read}
use Rattle.tb_csv.proofs.laws.marks_fit.Goals as goal

pub returns : goal.returns
returns c separator text = (lines_read separator text, marks_count separator text)
