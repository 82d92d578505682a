-- Columns that have rows.
use Rattle.std.specs.Prelude.{◌≡◌, ◌<◌, ℕ, List, All, length}
use Rattle.tb_chunk.specs.Promise.Col.{Col, values}

-- the column has that row
abbrev pub HasRow : ℕ → Col → Type 0
HasRow i c = i < length (values c)

-- each column has n rows
abbrev pub HasRows : ℕ → List Col → Type 0
HasRows n = All (λ (c : Col). length (values c) ≡ n)
