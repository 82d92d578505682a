-- The test by which rows are told apart is an equivalence.
use Rattle.std.proofs.Common.{◌≡◌, ℕ, Bool, ◌&&◌, List, [], ◌∷◌, map, refl, ap, subst}
use Rattle.std.specs.Cmp.{IsEquivalence}
use Rattle.std.specs.Cmp.Lexicographic.{pointwise}
use Rattle.tb_value.specs.Promise.Datum.{Datum}
use Rattle.tb_value.specs.Promise.Same.{same}
use Rattle.tb_value.specs.Proved.ValueTests.{pulled}
use Rattle.tb_rows.specs.Promise.Rows.{same_rows, row_value}
use Rattle.tb_rows.specs.Proved.KeyTests.{fields_equiv}

abbrev fields_of : List (List Datum) → ℕ → List Datum
fields_of lists i = map (λ vs. row_value vs i) lists

fields_same : (i j : ℕ) (lists : List (List Datum)) → pointwise same (fields_of lists i) (fields_of lists j) ≡ same_rows lists i j
fields_same i j [] = refl
fields_same i j (vs ∷ lists) = ap (λ (b : Bool). same (row_value vs i) (row_value vs j) && b) (fields_same i j lists)

pub rows_equiv : (lists : List (List Datum)) → IsEquivalence (same_rows lists)
rows_equiv lists = subst (λ (test : ℕ → ℕ → Bool). IsEquivalence test) (λ t i j. fields_same i j lists t) (pulled (fields_of lists) fields_equiv)
