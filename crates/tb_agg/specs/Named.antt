-- Rows that are named.
use Rattle.std.specs.Prelude.{ℕ, ◌<◌}
use Rattle.tb_rows.specs.Names.{name_of, AreNamed}
use Rattle.tb_rows.specs.declared.names.RowNames.{RowNames}

-- n rows have names, which are rows of a column that has so many
pub record AreRowsOf (names : RowNames) (n rows : ℕ) : Type 0 where
  pub named : AreNamed names n
  pub within : (j : ℕ) → j < n → name_of names j < rows
