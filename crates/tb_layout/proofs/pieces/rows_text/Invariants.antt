use Rattle.std.proofs.Common.{◌≡◌, ◌-◌, ◌≤◌}
use Rattle.tb_frame.specs.Promise.Table.{table_of}
use Rattle.tb_pieces.specs.Rows.{rows_bytes}
use Rattle.tb_layout.specs.Laid.{row_bytes}
use Rattle.tb_layout.proofs.pieces.rows_text.Given as goal

abbrev pub invariant-loop-row : goal.invariant-loop-row
invariant-loop-row l = record {
  from : l.start ≤ l.row;
  to : l.row ≤ l.end;
  text : l.text.items ≡ rows_bytes (row_bytes l.grid.line (table_of l.grid.columns.now)) l.start (l.row - l.start);
}
