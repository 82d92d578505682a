use Rattle.std.proofs.Common.{◌∙◌, sym}
use Rattle.tb_csv.proofs.MarkWalks.{alike, open_alike}
use Rattle.tb_csv.proofs.Unquoted.{no_marks, no_open_quote}
use Rattle.tb_csv.proofs.marks.marks_of.Goals as goal

pub returns-then-not-has_quote-clause-marks : goal.returns-then-not-has_quote-clause-marks
returns-then-not-has_quote-clause-marks c n l =
    rw c.new.ensures.items (no_marks c.args.separator c.args.text.now (sym c.has_quote.ensures ∙ c.if-not-has_quote.true) n l)

pub returns-then-not-has_quote-clause-open : goal.returns-then-not-has_quote-clause-open
returns-then-not-has_quote-clause-open c = sym (no_open_quote c.args.separator c.args.text.now (sym c.has_quote.ensures ∙ c.if-not-has_quote.true))

pub returns-clause-marks : goal.returns-clause-marks
returns-clause-marks c = alike c.args.separator c.args.text.now c.behind_mark.result.now c.marks_from_start.result c.behind_mark.ensures c.marks_from_start.ensures.marks

pub returns-clause-open : goal.returns-clause-open
returns-clause-open c = open_alike c.args.separator c.args.text.now c.behind_mark.result.now c.marks_from_start.result c.behind_mark.ensures c.marks_from_start.ensures.open
