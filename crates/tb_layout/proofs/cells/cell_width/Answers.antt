use Rattle.std.proofs.Common.{◌∙◌, ap, min}
use Rattle.tb_layout.proofs.Numbers.{digits_wide}
use Rattle.tb_layout.proofs.cells.cell_width.Goals as goal

pub returns-in-Some : goal.returns-in-Some
returns-in-Some c =
    c.min.ensures ∙ ap (min c.args.line) c.digit_count.ensures
    ∙ digits_wide c.args.line c.in-Some.number _ c.in-Some.ensures.few c.in-Some.ensures.text
