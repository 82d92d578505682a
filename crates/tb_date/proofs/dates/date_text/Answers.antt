use Rattle.std.proofs.Common.{◌≡◌, ◌∙◌, rules, unsigned_abs, ap, refl}
use Rattle.jiff_core.specs.Date.{epoch_day}
use Rattle.tb_date.specs.Promise.Dates.{day_of, month_of, year_of}
use Rattle.tb_date.proofs.DatesBack.{parts_of}
use Rattle.tb_date.proofs.dates.date_text.Goals as goal

pub returns : goal.returns
returns c =
    let parts = parts_of c.args.date c.requires in
    let size : c.unsigned_abs-year.result ≡ unsigned_abs c.args.date.year = search rules in
    let year : c.unsigned_abs-year.result ≡ year_of (epoch_day c.args.date) = size ∙ ap unsigned_abs parts.0 in
    let month : c.from.result ≡ month_of (epoch_day c.args.date) = c.from.ensures ∙ parts.1 in
    let day : c.from-2.result ≡ day_of (epoch_day c.args.date) = c.from-2.ensures ∙ parts.2 in
    rw (c.two_digits.ensures, c.two_digits-2.ensures, c.two_digits-3.ensures, c.two_digits-4.ensures, year, month, day) refl
