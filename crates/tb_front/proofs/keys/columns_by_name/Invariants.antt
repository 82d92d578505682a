use Rattle.std.proofs.Common.{◌≡◌, take}
use Rattle.tb_value.specs.Promise.Names.{Name}
use Rattle.tb_frame.specs.NamedColumns.{column_by}
use Rattle.tb_frame.proofs.Selected.{found}
use Rattle.tb_front.proofs.keys.columns_by_name.Given as goal

-- the map has the columns so far
abbrev pub invariant-loop-column : goal.invariant-loop-column
invariant-loop-column l = (n : Name) → column_by l.by_name n ≡ found n (take l.column-index l.columns)
