-- One row more of a group, as a loop over the rows has it.
use Rattle.std.proofs.Common.{◌≡◌, ◌≢◌, ◌∙◌, ◌<◌, ◌≤◌, ◌+◌, ℕ, zero, suc, Bool, true, false, cond, eqb, List, [], ◌∷◌, ◌++◌, filter, get_or, set, length, map, replicate, refl, sym, ap, arith}
use Rattle.std.specs.List.{All, range_with_len}
use Rattle.std.proofs.lemmas.Bool.{eq-eqb, ne_eqb}
use Rattle.std.proofs.lemmas.List.{append-nil, map-set, get_or-map}
use Rattle.std.proofs.lemmas.List.Elements.{All-get_or, filter-append}
use Rattle.std.proofs.lemmas.List.FromFn.{get_or-map-range_with_len, length-map-range_with_len, length-range_with_len}
use Rattle.std.proofs.lemmas.List.{length-map}
use Rattle.tb_value.proofs.RowNumbers.{row_numbers_more}
use Rattle.tb_value.specs.Promise.Pairs.{row_numbers}
use Rattle.tb_agg.specs.Grouped.{rows_of}

agree_from : {X : Type 0} (f h : ℕ → X) (b n : ℕ) → ((k : ℕ) → b ≤ k → f k ≡ h k) → map f (range_with_len b n) ≡ map h (range_with_len b n)
agree_from f h b zero e = refl
agree_from {X} f h b (suc n) e =
    ap (λ (x : X). x ∷ map f (range_with_len (b + 1) n)) (e b (omega arith))
    ∙ ap (λ (xs : List X). h b ∷ xs) (agree_from f h (b + 1) n (λ k le. e k (omega (arith, le))))

-- a function of the places of a list, changed at one place
pub set_range : {X : Type 0} (f h : ℕ → X) (a n i : ℕ) → i < n → ((k : ℕ) → k ≢ a + i → f k ≡ h k) → set (map f (range_with_len a n)) i (h (a + i)) ≡ map h (range_with_len a n)
set_range f h a zero i low e = absurd (omega (arith, low))
set_range {X} f h a (suc n) zero low e =
    ap (λ (k : ℕ). h k ∷ map f (range_with_len (a + 1) n)) (omega arith)
    ∙ ap (λ (xs : List X). h a ∷ xs) (agree_from f h (a + 1) n (λ k le. e k (λ same. absurd (omega (arith, same, le)))))
set_range {X} f h a (suc n) (suc i) low e =
    let at : a + suc i ≡ (a + 1) + i = omega arith in
    ap (λ (x : X). x ∷ set (map f (range_with_len (a + 1) n)) i (h (a + suc i))) (e a (λ same. absurd (omega (arith, same))))
    ∙ ap (λ (k : ℕ). h a ∷ set (map f (range_with_len (a + 1) n)) i (h k)) at
    ∙ ap (λ (xs : List X). h a ∷ xs) (set_range f h (a + 1) n i (omega (arith, low)) (λ k other. e k (λ same. other (same ∙ at))))

-- the rows of a group, one row more
rows_more : (numbers : List ℕ) (n k : ℕ) (b : Bool) → eqb (get_or numbers n 0) k ≡ b → rows_of numbers (n + 1) k ≡ rows_of numbers n k ++ cond b (n ∷ []) []
rows_more numbers n k b e =
    ap (filter (λ i. eqb (get_or numbers i 0) k)) (row_numbers_more n)
    ∙ filter-append (λ i. eqb (get_or numbers i 0) k) (row_numbers n) (n ∷ [])
    ∙ ap (λ c. rows_of numbers n k ++ cond c (n ∷ []) []) e

fewer : (p : ℕ → Bool) (xs : List ℕ) → length (filter p xs) ≤ length xs
fewer p [] = omega arith
fewer p (x ∷ xs) = by (p x) (fewer p xs)
  where
    by : (b : Bool) → length (filter p xs) ≤ length xs → length (cond b (x ∷ filter p xs) (filter p xs)) ≤ length (x ∷ xs)
    by true h = omega (arith, h)
    by false h = omega (arith, h)

-- a group has at most as many rows as there are
pub rows_few : (numbers : List ℕ) (n k : ℕ) → length (rows_of numbers n k) ≤ n
rows_few numbers n k =
    let h = fewer (λ i. eqb (get_or numbers i 0) k) (row_numbers n) in
    let long = length-range_with_len 0 n in
    omega (arith, h, long)

-- the number of a row is that of a group
pub group_low : (numbers : List ℕ) (g rows n p : ℕ) → length numbers ≡ rows → All (λ k. k < g) numbers → n < rows → p ≡ get_or numbers n 0 → p < g
group_low numbers g rows n p long within low is =
    let h = All-get_or (λ k. k < g) numbers n 0 (omega (arith, long, low)) within in
    omega (arith, h, is)

-- `made` is what is made of the rows of a group, and `shows` what is kept for it
module _ {X A : Type 0} (made : List ℕ → X) (shows : A → X) (numbers : List ℕ) (g : ℕ) where
  -- no row yet
  pub none_yet : (a : A) → shows a ≡ made [] → map shows (replicate g a) ≡ map (λ k. made (rows_of numbers 0 k)) (row_numbers g)
  none_yet a e = by 0 g
    where
      by : (b n : ℕ) → map shows (replicate n a) ≡ map (λ k. made (rows_of numbers 0 k)) (range_with_len b n)
      by b zero = refl
      by b (suc n) = ap (λ (x : X). x ∷ map shows (replicate n a)) e ∙ ap (λ (xs : List X). made [] ∷ xs) (by (b + 1) n)

  module _ (n : ℕ) (kept : List A) (so_far : map shows kept ≡ map (λ k. made (rows_of numbers n k)) (row_numbers g)) (p : ℕ) (is : p ≡ get_or numbers n 0) (low : p < g) where
    -- as many are kept as there are groups
    pub all_kept : length kept ≡ g
    all_kept = sym (length-map kept shows) ∙ ap length so_far ∙ length-map-range_with_len (λ k. made (rows_of numbers n k)) 0 g

    -- what is kept for the group of the next row
    pub kept_there : (d : A) → shows (get_or kept p d) ≡ made (rows_of numbers n p)
    kept_there d =
        sym (get_or-map shows kept p d (shows d) (omega (arith, low, all_kept)))
        ∙ ap (λ xs. get_or xs p (shows d)) so_far
        ∙ get_or-map-range_with_len (λ k. made (rows_of numbers n k)) 0 g p p (shows d) low (omega arith)

    -- it is kept with the row
    pub one_more : (a : A) → shows a ≡ made (rows_of numbers n p ++ n ∷ []) → map shows (set kept p a) ≡ map (λ k. made (rows_of numbers (n + 1) k)) (row_numbers g)
    one_more a e =
        map-set shows kept p a
        ∙ ap (λ xs. set xs p (shows a)) so_far
        ∙ ap (set (map (λ k. made (rows_of numbers n k)) (row_numbers g)) p) (e ∙ sym here)
        ∙ set_range (λ k. made (rows_of numbers n k)) (λ k. made (rows_of numbers (n + 1) k)) 0 g p low there
      where
        here : made (rows_of numbers (n + 1) (0 + p)) ≡ made (rows_of numbers n p ++ n ∷ [])
        here = ap (λ k. made (rows_of numbers (n + 1) k)) (omega arith) ∙ ap made (rows_more numbers n p true (eq-eqb (get_or numbers n 0) p (sym is)))

        there : (k : ℕ) → k ≢ 0 + p → made (rows_of numbers n k) ≡ made (rows_of numbers (n + 1) k)
        there k other = ap made (sym (rows_more numbers n k false (ne_eqb (get_or numbers n 0) k (λ same. other (omega (arith, same, is)))) ∙ append-nil (rows_of numbers n k)))
