use Rattle.std.proofs.Common.{◌≡◌, take, true}
use Rattle.std.specs.List.{list_all}
use Rattle.std.specs.Str.{is_utf8}
use Rattle.csv.specs.Records.{fields_of}
use Rattle.tb_csv.proofs.lines.names_in.Given as goal

abbrev pub invariant-loop-field : goal.invariant-loop-field
invariant-loop-field l =
    (goal.iterator-loop-field).can_next l.field-iterator ×
    (goal.iterator-loop-field).is_finite l.field-iterator ×
    (l.field-iterator.row.now ≡ l.row) ×
    (l.names.items ≡ take l.field-iterator.at (fields_of l.row)) ×
    (list_all is_utf8 (take l.field-iterator.at (fields_of l.row)) ≡ true)
