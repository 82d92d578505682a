use Rattle.std.proofs.Common.{◌≡◌, take}
use Rattle.tb_value.specs.Promise.Names.{Name}
use Rattle.tb_chunk.specs.Lent.{lent_columns}
use Rattle.tb_frame.specs.NamedColumns.{column_by}
use Rattle.tb_keys.specs.Coalescing.{key_beside}
use Rattle.tb_join.proofs.coalescing.columns_beside.Given as goal

-- the columns at the places so far
abbrev pub invariant-loop-place : goal.invariant-loop-place
invariant-loop-place l = (n : Name) → column_by l.beside n ≡ key_beside (take l.place l.names) (lent_columns l.columns) n
