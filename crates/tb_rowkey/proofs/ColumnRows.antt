-- Rows of columns, and whether two of them agree.
use Rattle.std.proofs.Common.{◌≡◌, ◌<◌, ℕ, zero, suc, Bool, false, List, [], ◌∷◌, length, get_or, refl, ap, sym, ◌∙◌, subst, arith}
use Rattle.std.specs.Prelude.{IsTrue}
use Rattle.std.specs.List.{All, list_all}
use Rattle.std.proofs.lemmas.List.{length-map}
use Rattle.tb_value.specs.Promise.Datum.{null}
use Rattle.tb_value.specs.Promise.Kind.{Kind}
use Rattle.tb_value.specs.Promise.Pairs.{row_numbers}
use Rattle.tb_value.specs.Promise.SameKind.{is_key}
use Rattle.tb_chunk.specs.Promise.Col.{Col, values}
use Rattle.tb_chunk.specs.Col.{IsColumn}
use Rattle.tb_rowkey.specs.Promise.Columns.{kinds, fields_at, row_count, key_at}
use Rattle.tb_rowkey.specs.Columns.{AreKeyColumns, field_of, columns_meet}
use Rattle.tb_rowkey.specs.Promise.RowKey.{key_row}
use Rattle.tb_value.specs.Promise.Same.{agrees}
use Rattle.tb_rowkey.specs.Rows.{IsKeyRow, rows_meet}
use Rattle.tb_rowkey.proofs.Rows.{keys_meet}

first_of_all : {X : Type 0} (P : X → Type 0) (x : X) (xs : List X) → All P (x ∷ xs) → P x
first_of_all P x xs h = h 0 x (omega arith)

rest_of_all : {X : Type 0} (P : X → Type 0) (x : X) (xs : List X) → All P (x ∷ xs) → All P xs
rest_of_all P x xs h = λ k d low. h (suc k) d (omega arith)

typed_fields : (n i : ℕ) (cs : List Col) → i < n → All IsColumn cs → All (λ (c : Col). IsTrue (is_key c.kind)) cs → All (λ (c : Col). length (values c) ≡ n) cs
    → IsKeyRow (kinds cs) (fields_at cs i)
typed_fields n i [] low h k r = tt
typed_fields n i (c ∷ cs) low h k r =
    let rows = first_of_all (λ (d : Col). length (values d) ≡ n) c cs r in (
      (first_of_all (λ (d : Col). IsTrue (is_key d.kind)) c cs k, (first_of_all IsColumn c cs h).typed i null (omega (arith, rows, low))),
      typed_fields n i cs low (rest_of_all IsColumn c cs h) (rest_of_all (λ (d : Col). IsTrue (is_key d.kind)) c cs k)
          (rest_of_all (λ (d : Col). length (values d) ≡ n) c cs r),
    )

pub row_of : (cs : List Col) (i : ℕ) → AreKeyColumns cs → i < row_count cs → IsKeyRow (kinds cs) (fields_at cs i)
row_of cs i a low = typed_fields (row_count cs) i cs low a.columns a.keys a.rows

field_is : (cs : List Col) (p i : ℕ) → get_or (fields_at cs i) p null ≡ field_of cs p i
field_is [] p i = refl
field_is (c ∷ cs) zero i = refl
field_is (c ∷ cs) (suc p) i = field_is cs p i

pub columns_match : (nulls : ℕ → Bool) (ls rs : List Col) (i j : ℕ) → AreKeyColumns ls → AreKeyColumns rs → kinds ls ≡ kinds rs → i < row_count ls → j < row_count rs
    → agrees false (key_at ls nulls i) (key_at rs nulls j) ≡ columns_meet nulls ls rs i j
columns_match nulls ls rs i j l r same below under =
    ap (λ (ts : List Kind). agrees false (key_at ls nulls i) (key_row ts nulls (fields_at rs j))) (sym same)
    ∙ keys_meet (kinds ls) nulls (fields_at ls i) (fields_at rs j) (row_of ls i l below)
    (subst (λ (ts : List Kind). IsKeyRow ts (fields_at rs j)) (sym same) (row_of rs j r under))
    ∙ ap (λ n. rows_meet nulls n (fields_at ls i) (fields_at rs j)) (length-map ls (λ (c : Col). c.kind))
    ∙ λ t. list_all (λ p. agrees (nulls p) (field_is ls p i t) (field_is rs p j t)) (row_numbers (length ls))
