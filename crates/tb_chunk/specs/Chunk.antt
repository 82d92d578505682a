-- What a chunk shows.
pub use Rattle.tb_cell.specs.Shown.{or_null}
