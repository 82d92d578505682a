use Rattle.std.proofs.Common.{rules, ◌≡◌, pos, w32, to_z, of_z}
use Rattle.tb_date.proofs.CivilDays.{day_of}
use Rattle.tb_date.proofs.dates.civil_day.Goals as goal

pub returns-in-Ok-clause-value : goal.returns-in-Ok-clause-value
returns-in-Ok-clause-value c =
    let year : c.in-Ok.date.year ≡ pos c.args.year = search rules in
    let month : c.in-Ok.date.month ≡ c.args.month = search rules in
    let day : c.in-Ok.date.day ≡ c.args.day = search rules in
    let back : to_z w32 (of_z w32 c.to_unix_epoch_day.result) ≡ c.to_unix_epoch_day.result = search rules in
    day_of c.in-Ok.date c.args.year c.args.month c.args.day c.to_unix_epoch_day.result _ year month day c.to_unix_epoch_day.ensures.value back
