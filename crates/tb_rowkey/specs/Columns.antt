-- The column of row keys.
use Rattle.std.specs.Prelude.{IsTrue, ◌≡◌, ◌<◌, ◌^◌, ℕ, Bool, false, List, [], ◌∷◌, length, map, slice_index_or}
use Rattle.std.specs.List.{All, list_all}
use Rattle.tb_value.specs.Promise.Datum.{Datum, null}
use Rattle.tb_value.specs.Promise.Kind as kind
use Rattle.tb_value.specs.Promise.Pairs.{row_numbers}
use Rattle.tb_value.specs.Promise.SameKind.{is_key}
use Rattle.tb_value.specs.declared.sorted.IsSorted.TheVariants.{Not}
use Rattle.tb_chunk.specs.Promise.Col.{Col, values}
use Rattle.tb_chunk.specs.Col.{IsColumn}
use Rattle.tb_chunk.specs.Promise.Made.{fresh_column}
pub use Rattle.tb_chunk.specs.Lent.{lent_columns}
use Rattle.tb_value.specs.Promise.Same.{agrees}
use Rattle.tb_rowkey.specs.Promise.Columns.{row_count, row_bytes, keys_at}

-- the bytes of a row are fewer than 2^32
abbrev pub IsShortRow : List Col → ℕ → Type 0
IsShortRow cs i = length (row_bytes cs i) < 2 ^ 32

abbrev pub AreShortRows : List Col → Type 0
AreShortRows cs = (i : ℕ) → i < row_count cs → IsShortRow cs i

-- the flag of the column at place p; beyond the flags it is false
abbrev pub flag_of : List Bool → ℕ → Bool
flag_of flags p = slice_index_or flags p false

-- a column without a name, with the key of each row, in one chunk
abbrev pub key_column : List Col → (ℕ → Bool) → Col
key_column cs nulls = fresh_column [] kind.binary (keys_at cs nulls ∷ []) Not

-- the field of row i in the column at place p
abbrev pub field_of : List Col → ℕ → ℕ → Datum
field_of cs p i = slice_index_or (slice_index_or (map (λ (c : Col). values c) cs) p []) i null

-- columns of key types and of one length
pub record AreKeyColumns (cs : List Col) : Type 0 where
  pub columns : All IsColumn cs
  pub keys : All (λ (c : Col). IsTrue (is_key c.kind)) cs
  pub rows : All (λ (c : Col). length (values c) ≡ row_count cs) cs

-- the fields of row i of some columns and of row j of others agree at each place
abbrev pub columns_meet : (ℕ → Bool) → List Col → List Col → ℕ → ℕ → Bool
columns_meet nulls ls rs i j =
    list_all (λ p. agrees (nulls p) (field_of ls p i) (field_of rs p j)) (row_numbers (length ls))
