use Rattle.std.proofs.Common.{◌≡◌, ◌+◌, ◌-◌, ◌*◌, ◌^◌, ◌<◌, take, true}
use Rattle.std.specs.List.{fold, list_all}
use Rattle.tb_label.specs.Promise.Numerals.{is_digit}
use Rattle.tb_date.proofs.dates.number_in.Given as goal

abbrev pub invariant-loop-digit : goal.invariant-loop-digit
invariant-loop-digit l =
    (list_all is_digit (take l.digit-index l.digits) ≡ true)
    × (l.number ≡ fold (λ n c. 10 * n + (c - 48)) 0 (take l.digit-index l.digits))
    × (l.number < 10 ^ l.digit-index)
