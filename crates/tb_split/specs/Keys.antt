-- The keys of the rows of a table that is parted.
use Rattle.std.specs.Prelude.{◌≡◌, ℕ, ◌<◌, ◌≤◌, false, List, length, Option}
use Rattle.std.specs.Borrow.{Bor}
use Rattle.std.specs.List.{All}
use Rattle.tb_value.specs.Promise.Datum.{Datum}
use Rattle.tb_value.specs.Promise.Names.{Name}
use Rattle.tb_value.specs.declared.limits.TheConstants.{MAX_ROWS}
use Rattle.tb_chunk.specs.Lent.{lent_columns}
use Rattle.tb_chunk.specs.Promise.Col.{Col, values}
use Rattle.tb_frame.specs.Promise.Table.{Table, height, row_at, table_of}
use Rattle.tb_rowkey.specs.Promise.Columns.{row_count}
use Rattle.tb_rowkey.specs.Promise.RowKey.{key_row}
use Rattle.tb_build.specs.Codes.{code_or_none}
use Rattle.tb_build.specs.Promise.Codes.{fibonacci, fnv1a, part_of}
use Rattle.tb_split.specs.Promise.Split.{kinds_of, split_keys}

-- the part, of n, of the bytes of a key
abbrev pub bytes_part : ℕ → Option (List ℕ) → ℕ
bytes_part n key = part_of (fibonacci (code_or_none fnv1a key)) n

-- the key of row i by these columns, where no Null has one
abbrev pub key_of_row : Table → ℕ → Datum
key_of_row keys i = key_row (kinds_of keys) (λ _. false) (row_at keys i)

-- lent columns of these names, of which there is one at least, as long as the table is high
pub record AreKeysOf (t : Table) (on : List Name) (keys : List (Bor Col)) : Type 0 where
  pub named : table_of (lent_columns keys) ≡ split_keys t on
  pub some : 0 < length keys
  pub level : All (λ c. length (values c) ≡ row_count (lent_columns keys)) (lent_columns keys)
  pub high : row_count (lent_columns keys) ≡ height t

-- few rows, each of h
pub record AreRowsOf (h : ℕ) (rows : List ℕ) : Type 0 where
  pub low : All (λ r. r < h) rows
  pub few : length rows ≤ MAX_ROWS
