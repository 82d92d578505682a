-- The tables that a program holds, as far as their texts depend on it.
use Rattle.std.specs.Prelude.{◌<◌, ◌^◌}
use Rattle.std.specs.List.{All}
use Rattle.tb_frame.specs.Promise.Table.{Table, IsTyped, height}

-- the values of each column are of its type, and the number of rows has 64 bits
pub record IsWritable (t : Table) : Type 0 where
  pub typed : All IsTyped t
  pub short : height t < 2 ^ 64
