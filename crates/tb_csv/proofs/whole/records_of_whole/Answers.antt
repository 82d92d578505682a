use Rattle.std.proofs.Common.{◌∙◌, inr, sym}
use Rattle.std.proofs.lemmas.Result.{err_from_is_err_and}
use Rattle.tb_csv.specs.Promise.Records.{lines_of, marks_of, records_of}
use Rattle.tb_csv.proofs.Causes.{same_fault}
use Rattle.tb_csv.proofs.ReadRecords.{lines_fault, open_fault}
use Rattle.tb_csv.proofs.whole.records_of_whole.Goals as goal

pub returns-then-marks-clause-settles : goal.returns-then-marks-clause-settles
returns-then-marks-clause-settles c = inr (open_fault c.args.separator c.args.text.now (sym c.in_ok-marks.ensures.open ∙ c.if-marks.true))

pub returns-in_err-lines-clause-settles : goal.returns-in_err-lines-clause-settles
returns-in_err-lines-clause-settles c =
    let p = err_from_is_err_and c.from_residual-in_err-lines.result c.from_residual-in_err-lines.ensures.1 in
    rw (p.1, p.2) (same_fault _ _ _ (lines_fault c.args.separator c.args.text.now (sym c.in_ok-marks.ensures.open ∙ c.if-marks.false)) c.in_err-lines.ensures.settles)

pub returns-clause-settles : goal.returns-clause-settles
returns-clause-settles c =
    sym (lines_fault c.args.separator c.args.text.now (sym c.in_ok-marks.ensures.open ∙ c.if-marks.false)) ∙ c.in_ok-lines.ensures.settles

pub returns-clause-read : goal.returns-clause-read
unfolding records_of
returns-clause-read c =
    let separator = c.args.separator in
    let text = c.args.text.now in
    c.in_ok-marked_lines.ensures.read (marks_of separator text) (lines_of separator text) (rw c.deref.ensures.value c.in_ok-marks.ensures.marks) c.in_ok-lines.ensures.read
