-- What contracts see of a column.
use Rattle.std.specs.Prelude.{◌<◌, ◌≤◌, length}
use Rattle.std.specs.List.{All}
use Rattle.tb_value.specs.Promise.Typed.{HasType}
use Rattle.tb_value.specs.declared.limits.TheConstants.{MAX_ROWS}
use Rattle.tb_cell.specs.Flag.{FlagHolds}
pub use Rattle.tb_cell.specs.Physical.{physical}
use Rattle.tb_chunk.specs.Promise.Col.{Col, values}

-- what is true of each column
pub record IsColumn (c : Col) : Type 0 where
  pub chunked : 0 < length c.chunks
  pub short : length (values c) ≤ MAX_ROWS
  pub typed : All (HasType c.kind) (values c)
  pub flag_holds : FlagHolds c.flag c.kind (values c)
