use Rattle.std.proofs.Common.{◌≡◌, true}
use Rattle.std.specs.List.{list_all}
use Rattle.csv.specs.Records.{fields_of}
use Rattle.tb_csv.specs.Read.{bare_fields, fields_down, is_text_field}
use Rattle.tb_csv.proofs.field_columns.column_texts.Given as goal

abbrev pub invariant-loop-row : goal.invariant-loop-row
invariant-loop-row g l = record {
  fields : bare_fields (fields_of l.texts) ≡ fields_down l.width l.row l.column (g.R.Rows.shown l.rows);
  texts : list_all is_text_field (bare_fields (fields_of l.texts)) ≡ true;
}
