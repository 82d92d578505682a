use Rattle.std.proofs.Common.{◌≡◌, ◌-◌, ◌≤◌, ◌⊎◌}
use Rattle.tb_frame.specs.Promise.Table.{table_of}
use Rattle.tb_pieces.specs.Rows.{rows_bytes}
use Rattle.tb_csv.specs.Texts.{row_text}
use Rattle.tb_csv.proofs.text.rows_text.Given as goal

abbrev pub invariant-loop-index : goal.invariant-loop-index
invariant-loop-index l = record {
  from : l.start ≤ l.index;
  to : (l.index ≤ l.end) ⊎ (l.index ≡ l.start);
  text : l.text.items ≡ rows_bytes (row_text l.separator (table_of l.columns)) l.start (l.index - l.start);
}
