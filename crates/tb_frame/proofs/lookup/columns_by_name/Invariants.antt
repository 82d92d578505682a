use Rattle.std.proofs.Common.{◌≡◌, take}
use Rattle.std.specs.List.{find}
use Rattle.tb_value.specs.Promise.Names.{Name, same_name}
use Rattle.tb_chunk.specs.Promise.Col.{Col}
use Rattle.tb_frame.specs.NamedColumns.{column_by}
use Rattle.tb_frame.proofs.lookup.columns_by_name.Given as goal

-- the map has the columns so far
abbrev pub invariant-loop-column : goal.invariant-loop-column
invariant-loop-column l = (n : Name) → column_by l.by_name n ≡ find (λ (c : Col). same_name c.name n) (take l.column-index l.columns)
