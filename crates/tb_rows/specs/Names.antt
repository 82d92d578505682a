-- What rows are called.
use Rattle.std.specs.Prelude.{◌≡◌, ℕ, ◌+◌, ◌≤◌, length, slice_index_or}
use Rattle.tb_value.specs.declared.limits.TheConstants.{MAX_ROWS}
use Rattle.tb_rows.specs.declared.names.RowNames.{RowNames}
use Rattle.tb_rows.specs.declared.names.RowNames.TheVariants.{From, Listed}

-- what row j is called
abbrev pub name_of : RowNames → ℕ → ℕ
name_of (From first) j = first + j
name_of (Listed rows) j = slice_index_or rows.now j 0

-- each of the first n rows has a name, which fits
abbrev pub AreNamed : RowNames → ℕ → Type 0
AreNamed (From first) n = first + n ≤ MAX_ROWS
AreNamed (Listed rows) n = (length rows.now ≡ n) × (n ≤ MAX_ROWS)
