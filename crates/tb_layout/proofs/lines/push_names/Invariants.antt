use Rattle.std.proofs.Common.{◌≡◌, Some, take}
use Rattle.tb_frame.specs.Promise.Table.{table_of}
use Rattle.tb_layout.specs.Promise.Lines.{name_in, side_by_side}
use Rattle.tb_layout.specs.Room.{with_cut}
use Rattle.tb_layout.proofs.lines.push_names.Given as goal

abbrev pub invariant-loop-k : goal.invariant-loop-k
invariant-loop-k l = (l.text.items, l.room) ≡ with_cut (l.initial.text.items, Some l.grid.line) (side_by_side (name_in l.grid.line) (table_of (take l.k l.grid.columns.now)))
