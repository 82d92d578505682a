use Rattle.std.proofs.Common.{◌≡◌, drop}
use Rattle.std.specs.Prelude.{slice_get}
use Rattle.tb_csv.specs.Places.{state_at}
use Rattle.tb_csv.specs.Promise.LineNumbers.{begins_record, places_from, record_places}
use Rattle.tb_csv.specs.Promise.Records.{form}
use Rattle.tb_csv.proofs.line_numbers.record_place.Given as goal

abbrev pub invariant-loop-i : goal.invariant-loop-i
invariant-loop-i l =
    slice_get (places_from begins_record (form l.separator) (state_at l.place) l.i (drop l.i l.text)) l.before ≡ slice_get (record_places l.separator l.text) l.others
