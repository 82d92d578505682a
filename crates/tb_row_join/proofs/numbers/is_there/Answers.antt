use Rattle.std.proofs.Common.{◌≡◌, ◌∙◌, ◌<◌, sym, length, eqb-true, arith}
use Rattle.std.proofs.lemmas.Bool.{eqb-false}
use Rattle.tb_row_join.proofs.Marked.{bare-there, some-there}
use Rattle.tb_row_join.proofs.numbers.is_there.Goals as goal

pub returns-then-is_empty : goal.returns-then-is_empty
returns-then-is_empty c = sym (bare-there c.args.marks.now c.args.row (eqb-true (length c.args.marks.now) 0 (sym c.is_empty.ensures ∙ c.if-is_empty.true)))

pub bounds-marks-row : goal.bounds-marks-row
bounds-marks-row c =
    let some = eqb-false (length c.args.marks.now) 0 (sym c.is_empty.ensures ∙ c.if-is_empty.false) in
    c.requires (omega (arith, some))

pub returns : goal.returns
returns c = some-there c.args.marks.now c.args.row (eqb-false (length c.args.marks.now) 0 (sym c.is_empty.ensures ∙ c.if-is_empty.false))
