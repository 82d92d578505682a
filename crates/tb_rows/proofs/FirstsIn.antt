-- The first rows of a table are those of the list of all its rows.
use Rattle.std.proofs.Common.{◌≡◌, ◌∙◌, ◌+◌, ◌||◌, ℕ, zero, suc, Bool, true, false, cond, not, List, [], ◌∷◌, ◌++◌, filter, refl, sym, ap, subst, arith}
use Rattle.std.specs.Cmp.{IsEquivalence}
use Rattle.std.specs.List.{list_any}
use Rattle.std.proofs.lemmas.List.Elements.{filter-append}
use Rattle.tb_value.proofs.RowNumbers.{row_numbers_more}
use Rattle.tb_value.specs.Promise.Pairs.{row_numbers}
use Rattle.tb_rows.specs.InGroups.{firsts_in}
use Rattle.tb_rows.specs.Promise.Rows.{first_rows, is_first}
use Rattle.tb_rows.proofs.FirstRows.{firsts_more}

-- one row more in the list
firsts_push : (test : ℕ → ℕ → Bool) (xs : List ℕ) (y : ℕ) → firsts_in test (xs ++ y ∷ []) ≡ firsts_in test xs ++ cond (not (list_any (λ x. test x y) xs)) (y ∷ []) []
firsts_push test [] y = refl
firsts_push test (x ∷ xs) y =
    ap (λ (l : List ℕ). x ∷ filter others l) (firsts_push test xs y)
    ∙ ap (λ (l : List ℕ). x ∷ l) (filter-append others (firsts_in test xs) (cond (not (list_any (λ z. test z y) xs)) (y ∷ []) []))
    ∙ ap (λ (l : List ℕ). x ∷ filter others (firsts_in test xs) ++ l) (by (test x y) (list_any (λ z. test z y) xs) refl)
  where
    others : ℕ → Bool
    others z = not (test x z)

    by : (b c : Bool) → test x y ≡ b → filter others (cond (not c) (y ∷ []) []) ≡ cond (not (test x y || c)) (y ∷ []) []
    by true true e = sym (ap (λ (b : Bool). cond (not (b || true)) (y ∷ []) []) e)
    by true false e = ap (λ (b : Bool). cond (not b) (y ∷ []) []) e ∙ sym (ap (λ (b : Bool). cond (not (b || false)) (y ∷ []) []) e)
    by false true e = sym (ap (λ (b : Bool). cond (not (b || true)) (y ∷ []) []) e)
    by false false e = ap (λ (b : Bool). cond (not b) (y ∷ []) []) e ∙ sym (ap (λ (b : Bool). cond (not (b || false)) (y ∷ []) []) e)

-- the first rows of a table are those of the list of all its rows
pub firsts_of_all : (test : ℕ → ℕ → Bool) → IsEquivalence test → (n : ℕ) → first_rows test n ≡ firsts_in test (row_numbers n)
firsts_of_all test same zero = refl
firsts_of_all test same (suc n) = subst (λ (m : ℕ). first_rows test m ≡ firsts_in test (row_numbers m)) (one_more n)
    (firsts_more test same n (is_first test n) refl
    ∙ ap (λ (l : List ℕ). l ++ cond (is_first test n) (n ∷ []) []) (firsts_of_all test same n)
    ∙ sym (ap (firsts_in test) (row_numbers_more n) ∙ firsts_push test (row_numbers n) n))
  where
    one_more : (n : ℕ) → n + 1 ≡ suc n
    one_more n = omega arith
