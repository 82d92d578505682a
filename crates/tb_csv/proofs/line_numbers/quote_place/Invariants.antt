use Rattle.std.proofs.Common.{◌≡◌, ◌<◌, ℕ, Option, Some, drop, length}
use Rattle.std.specs.Prelude.{IfSome}
use Rattle.std.specs.List.{fold}
use Rattle.tb_csv.specs.Places.{state_at}
use Rattle.tb_csv.specs.Promise.LineNumbers.{last, opens_field, places_from, quote_places}
use Rattle.tb_csv.specs.Promise.Records.{form}
use Rattle.tb_csv.proofs.line_numbers.quote_place.Given as goal

abbrev pub invariant-loop-i : goal.invariant-loop-i
invariant-loop-i l =
    (fold (λ (found : Option ℕ) k. Some k) l.found (places_from opens_field (form l.separator) (state_at l.place) l.i (drop l.i l.text)) ≡ last (quote_places l.separator l.text))
    × IfSome l.found (λ i. i < length l.text)
