use Rattle.std.proofs.Common.{sym, subst}
use Rattle.std.specs.Str.{IsUtf8}
use Rattle.jiff_core.specs.Date.{epoch_day}
use Rattle.tb_date.proofs.DateTexts.{date_is_text}
use Rattle.tb_date.proofs.numbers.text_of.Goals as goal

pub unreachable-requires : goal.unreachable-requires
unreachable-requires c = c.in-Err.ensures.cases.0 (subst IsUtf8 (sym c.date_text.ensures) (date_is_text (epoch_day c.args.date) c.requires))
