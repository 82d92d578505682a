-- The column of row keys.
use Rattle.std.specs.Prelude.{ℕ, Bool, List, [], ◌∷◌, length, map, slice_index_or}
use Rattle.tb_value.specs.Promise.Datum.{Datum, null}
use Rattle.tb_value.specs.Promise.Kind.{Kind}
use Rattle.tb_value.specs.Promise.Pairs.{row_numbers}
use Rattle.tb_chunk.specs.Promise.Col.{Col, values}
use Rattle.tb_rowkey.specs.Promise.RowKey.{rowkey, key_row}

-- the length of the columns
abbrev pub row_count : List Col → ℕ
row_count [] = 0
row_count (c ∷ cs) = length (values c)

abbrev pub kinds : List Col → List Kind
kinds cs = map (λ (c : Col). c.kind) cs

-- the fields of row i
abbrev pub fields_at : List Col → ℕ → List Datum
fields_at cs i = map (λ (c : Col). slice_index_or (values c) i null) cs

-- the bytes of row i
abbrev pub row_bytes : List Col → ℕ → List ℕ
row_bytes cs i = rowkey (kinds cs) (fields_at cs i)

-- the key of row i
abbrev pub key_at : List Col → (ℕ → Bool) → ℕ → Datum
key_at cs nulls i = key_row (kinds cs) nulls (fields_at cs i)

-- the keys of all rows
abbrev pub keys_at : List Col → (ℕ → Bool) → List Datum
keys_at cs nulls = map (key_at cs nulls) (row_numbers (row_count cs))
