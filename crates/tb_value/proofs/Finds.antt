-- The first that passes, as a loop finds it.
use Rattle.std.proofs.Common.{◌≡◌, ℕ, ◌+◌, ◌<◌, ◌≤◌, Bool, true, false, cond, List, [], ◌∷◌, length, get_or, take, drop, ap, arith, sym, ◌∙◌, Option, Some, None}
use Rattle.std.specs.List.{find}
use Rattle.std.specs.Option.{option_or}
use Rattle.std.proofs.lemmas.List.{take_more, drop_more, take-append-drop, map-id}
use Rattle.std.proofs.lemmas.List.Folds.{find-append}
use Rattle.std.proofs.lemmas.List.FromFn.{take-map-range_with_len, length-range_with_len, get_or-range_with_len}
use Rattle.tb_value.specs.Promise.Pairs.{row_numbers}

module _ {X : Type 0} (p : X → Bool) (xs : List X) (i : ℕ) (x : X) (low : i < length xs) (is : x ≡ get_or xs i x) (none : find p (take i xs) ≡ None) where
  pub find_more : p x ≡ false → find p (take (i + 1) xs) ≡ None
  find_more fails =
      ap (find p) (take_more xs i x low)
      ∙ find-append p (take i xs) (get_or xs i x ∷ [])
      ∙ ap (λ (o : Option X). option_or o (find p (get_or xs i x ∷ []))) none
      ∙ ap (λ (y : X). find p (y ∷ [])) (sym is)
      ∙ ap (λ (b : Bool). cond b (Some x) None) fails

  pub find_stop : p x ≡ true → find p xs ≡ Some x
  find_stop passes =
      ap (find p) (sym (take-append-drop i xs))
      ∙ find-append p (take i xs) (drop i xs)
      ∙ ap (λ (o : Option X). option_or o (find p (drop i xs))) none
      ∙ ap (find p) (drop_more xs i x low)
      ∙ ap (λ (y : X). find p (y ∷ drop (i + 1) xs)) (sym is)
      ∙ ap (λ (b : Bool). cond b (Some x) (find p (drop (i + 1) xs))) passes

take_rows : (k n : ℕ) → k ≤ n → take k (row_numbers n) ≡ row_numbers k
take_rows k n le = ap (take k) (sym (map-id (row_numbers n))) ∙ take-map-range_with_len (λ (i : ℕ). i) 0 n k le ∙ map-id (row_numbers k)

-- the same over row numbers
module _ (p : ℕ → Bool) (k n : ℕ) (low : k < n) (none : find p (row_numbers k) ≡ None) where
  below : k < length (row_numbers n)
  below = let long = length-range_with_len 0 n in omega (arith, long)

  at : k ≡ get_or (row_numbers n) k k
  at = sym (get_or-range_with_len 0 n k k low ∙ omega arith)

  before : find p (take k (row_numbers n)) ≡ None
  before = ap (find p) (take_rows k n (omega arith)) ∙ none

  pub find_row_more : p k ≡ false → find p (row_numbers (k + 1)) ≡ None
  find_row_more fails = ap (find p) (sym (take_rows (k + 1) n (omega arith))) ∙ find_more p (row_numbers n) k k below at before fails

  pub find_row_stop : p k ≡ true → find p (row_numbers n) ≡ Some k
  find_row_stop passes = find_stop p (row_numbers n) k k below at before passes
