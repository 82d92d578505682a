use Rattle.std.proofs.Common.{◌≡◌, ◌+◌, drop, length, map, take}
use Rattle.tb_frame.specs.Promise.Table.{table_of}
use Rattle.tb_layout.specs.Promise.Lines.{column_width, fitting, fitting_columns}
use Rattle.tb_layout.proofs.grid.fitting_widths.Given as goal

abbrev pub invariant-loop-column : goal.invariant-loop-column
invariant-loop-column g l = record {
  widths : l.widths.items ≡ map (column_width l.line) (table_of (take l.column-index l.columns));
  count : length l.widths.items ≡ l.column-index;
  fits : l.column-index + fitting l.room (map (column_width l.line) (table_of (drop l.column-index l.columns))) ≡ fitting_columns l.line (table_of l.columns);
}
