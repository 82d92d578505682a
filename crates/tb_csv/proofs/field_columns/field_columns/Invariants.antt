use Rattle.std.proofs.Common.{◌≡◌, map, true}
use Rattle.std.specs.List.{list_all}
use Rattle.tb_value.specs.Promise.Pairs.{row_numbers}
use Rattle.tb_csv.specs.Read.{fields_down, held_fields, is_text_field}
use Rattle.tb_csv.proofs.field_columns.field_columns.Given as goal

abbrev pub invariant-loop-column : goal.invariant-loop-column
invariant-loop-column g l = record {
  fields : map held_fields l.columns.items ≡ map (λ j. fields_down l.width l.height j (g.R.Rows.shown l.rows)) (row_numbers l.column);
  texts : list_all (list_all is_text_field) (map held_fields l.columns.items) ≡ true;
}
