use Rattle.std.proofs.Common.{◌≡◌, false, length, map}
use Rattle.tb_frame.specs.Promise.Table.{table_of}
use Rattle.tb_json.specs.Promise.Text.{column_data}
use Rattle.tb_json.specs.Written.{with_items}
use Rattle.tb_json.proofs.write_tables.push_columns.Given as goal

-- what is written, and what is left
abbrev pub invariant-loop-column : goal.invariant-loop-column
invariant-loop-column l = record {
  written : with_items (l.text, l.later) (map column_data (table_of l.column-iterator.rest.items)) ≡ with_items (l.initial.text, false) (map column_data (table_of l.initial.column-iterator.rest.items));
  rest_len : l.column-iterator.rest.len ≡ length l.column-iterator.rest.items;
}
