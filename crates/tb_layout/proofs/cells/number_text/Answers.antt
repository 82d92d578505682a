use Rattle.std.proofs.Common.{◌∙◌, ap, sym, subst}
use Rattle.std.specs.Str.{IsUtf8}
use Rattle.tb_date.specs.Promise.Dates.{has_text}
use Rattle.tb_date.proofs.DateTexts.{date_is_text}
use Rattle.tb_layout.proofs.cells.number_text.Goals as goal

pub unreachable-requires : goal.unreachable-requires
unreachable-requires c =
    c.in-Err.ensures.cases.0 (subst IsUtf8 (sym c.date_text-digits.ensures) (date_is_text _ (ap has_text c.in-Some.ensures.1 ∙ c.in-Some.ensures.0)))
