use Rattle.std.proofs.Common.{◌≡◌, ◌∙◌, sym, length, eqb-true}
use Rattle.std.proofs.lemmas.Bool.{eqb-false}
use Rattle.tb_row_join.proofs.Marked.{bare-fit, some-fit}
use Rattle.tb_row_join.proofs.numbers.are_marks.Goals as goal

pub returns-then-is_empty : goal.returns-then-is_empty
returns-then-is_empty c = sym (bare-fit c.args.numbers.now c.args.marks.now (eqb-true (length c.args.marks.now) 0 (sym c.is_empty.ensures ∙ c.if-is_empty.true)))

pub returns : goal.returns
returns c = some-fit c.args.numbers.now c.args.marks.now (eqb-false (length c.args.marks.now) 0 (sym c.is_empty.ensures ∙ c.if-is_empty.false))
