-- The values of a row in some columns, and their code.
use Rattle.std.specs.Prelude.{ℕ, Bool, List, map, fold}
use Rattle.std.specs.Borrow.{Bor}
use Rattle.std.specs.Cmp.Lexicographic.{pointwise}
use Rattle.std.specs.Hash.{HashWrites}
use Rattle.std.specs.Hash.FoldHasher.{initial, write, finish}
use Rattle.std.specs.List.{flat_map}
use Rattle.tb_value.specs.Promise.Datum.{Datum}
use Rattle.tb_value.specs.Fed.{fed_datum}
use Rattle.tb_value.specs.Promise.Same.{same}
use Rattle.tb_chunk.specs.Promise.Col.{Col, values}
use Rattle.tb_rows.specs.Promise.Rows.{row_value}

-- the values of a row
abbrev pub fields_at : List (Bor Col) → ℕ → List Datum
fields_at cs i = map (λ (c : Bor Col). row_value (values c.now) i) cs

-- whether two rows have the same values
abbrev pub same_at : List (Bor Col) → ℕ → ℕ → Bool
same_at cs i j = pointwise same (fields_at cs i) (fields_at cs j)

-- what is fed of a row
abbrev pub fed_fields : List Datum → HashWrites
fed_fields vs = flat_map fed_datum vs

-- the code of a row's values
unfoldable pub row_code : List Datum → ℕ
row_code vs = finish (fold write initial (fed_fields vs))
