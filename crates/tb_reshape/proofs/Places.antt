-- The rows of some columns that stand one below the other: row r of column a of height h is row a * h + r.
use Rattle.std.proofs.Common.{◌≡◌, ◌∙◌, ◌<◌, ◌≤◌, ◌+◌, ◌-◌, ◌*◌, ◌/◌, ◌%◌, ℕ, zero, suc, Bool, true, false, ◌&&◌, cond, eqb, List, [], ◌∷◌, ◌++◌, filter, get_or, map, refl, sym, ap, subst, arith}
use Rattle.std.specs.List.{All, list_any, range_with_len}
use Rattle.std.proofs.lemmas.Bool.{eq-eqb, ne_eqb, not_from_false, not_from_true}
use Rattle.std.proofs.lemmas.List.{append-nil, map_push}
use Rattle.std.proofs.lemmas.List.Elements.{All-head, All-tail, filter-append}
use Rattle.std.proofs.lemmas.List.Folds.{list_any_at, list_any_none}
use Rattle.std.proofs.lemmas.List.FromFn.{get_or-range_with_len, length-range_with_len}
use Rattle.std.proofs.lemmas.Nat.{div-add-mod', div-mul-add, mod-mul-add, mod_below, row_fits}
use Rattle.tb_value.specs.Promise.Pairs.{row_numbers}
use Rattle.tb_value.proofs.RowNumbers.{range_cut, row_numbers_more}
use Rattle.tb_rows.specs.Promise.Rows.{first_rows, is_first}
use Rattle.tb_pivot.proofs.Cell.{same_place}
use Rattle.tb_pivot.proofs.Members.{each_row, filter_same, none_pass}

-- NUMBERS IN A ROW

each_from : (P : ℕ → Type 0) (a n : ℕ) → ((i : ℕ) → a ≤ i → i < a + n → P i) → All P (range_with_len a n)
each_from P a n holds = λ k d low.
    let under : k < n = omega (arith, low, length-range_with_len a n) in
    subst P (sym (get_or-range_with_len a n k d under)) (holds (a + k) (omega arith) (omega (arith, under)))

pub all_pass : (p : ℕ → Bool) (xs : List ℕ) → All (λ x. p x ≡ true) xs → filter p xs ≡ xs
all_pass p [] pass = refl
all_pass p (x ∷ xs) pass =
    let P : ℕ → Type 0 = λ y. p y ≡ true in
    ap (λ (b : Bool). cond b (x ∷ filter p xs) (filter p xs)) (All-head P x xs pass) ∙ ap (λ (ys : List ℕ). x ∷ ys) (all_pass p xs (All-tail P x xs pass))

-- one number of a run passes alone, its first
one_passes : (p : ℕ → Bool) (a n : ℕ) → p a ≡ true → ((i : ℕ) → a < i → i < a + suc n → p i ≡ false) → filter p (range_with_len a (suc n)) ≡ a ∷ []
one_passes p a n here none =
    ap (λ (b : Bool). cond b (a ∷ filter p (range_with_len (a + 1) n)) (filter p (range_with_len (a + 1) n))) here
    ∙ ap (λ (ys : List ℕ). a ∷ ys) (none_pass p (range_with_len (a + 1) n) (each_from (λ i. p i ≡ false) (a + 1) n (λ i from to. none i (omega (arith, from)) (omega (arith, to)))))

cut : (n m k : ℕ) → n ≡ m + k → row_numbers n ≡ row_numbers m ++ range_with_len m k
cut n m k is =
    let z : 0 + m ≡ m = omega arith in
    ap row_numbers is ∙ range_cut 0 m k ∙ ap (λ (b : ℕ). row_numbers m ++ range_with_len b k) z

-- the numbers below h of n
below : (p : ℕ → Bool) (h n : ℕ) → h ≤ n → ((i : ℕ) → i < h → p i ≡ true) → ((i : ℕ) → h ≤ i → i < n → p i ≡ false) → filter p (row_numbers n) ≡ row_numbers h
below p h n fits low high =
    let k : ℕ = n - h in
    let whole : n ≡ h + k = omega (arith, fits) in
    ap (filter p) (cut n h k whole) ∙ filter-append p (row_numbers h) (range_with_len h k)
    ∙ ap (λ (ys : List ℕ). ys ++ filter p (range_with_len h k)) (all_pass p (row_numbers h) (each_row (λ i. p i ≡ true) h low))
    ∙ ap (λ (ys : List ℕ). row_numbers h ++ ys) (none_pass p (range_with_len h k) (each_from (λ i. p i ≡ false) h k (λ i from to. high i from (omega (arith, to, whole)))))
    ∙ append-nil (row_numbers h)

-- a number alone
alone : (at n : ℕ) → at < n → filter (eqb at) (row_numbers n) ≡ at ∷ []
alone at n low =
    let k : ℕ = n - at - 1 in
    let whole : n ≡ at + suc k = omega (arith, low) in
    ap (filter (eqb at)) (cut n at (suc k) whole) ∙ filter-append (eqb at) (row_numbers at) (range_with_len at (suc k))
    ∙ ap (λ (ys : List ℕ). ys ++ filter (eqb at) (range_with_len at (suc k))) (none_pass (eqb at) (row_numbers at) (each_row (λ i. eqb at i ≡ false) at (λ i under. ne_eqb at i (λ e. absurd (omega (arith, e, under))))))
    ∙ one_passes (eqb at) at k (eq-eqb at at refl) (λ i over to. ne_eqb at i (λ e. absurd (omega (arith, e, over))))

-- PLACES

module _ (h : ℕ) (some : 0 < h) where
  pub small : (i : ℕ) → i < h → i % h ≡ i
  small i low = let z : i ≡ 0 * h + i = omega arith in ap (λ (k : ℕ). k % h) z ∙ mod-mul-add 0 h i low

  multiple : (a : ℕ) → (a * h) / h ≡ a
  multiple a = let z : a * h ≡ a * h + 0 = omega arith in ap (λ (k : ℕ). k / h) z ∙ div-mul-add a h 0 some

  module _ (m : ℕ) (test : ℕ → ℕ → Bool) where
    -- rows that are told apart by where they stand in their column
    module _ (by_row : (i j : ℕ) → i < m * h → j < m * h → test i j ≡ eqb (i % h) (j % h)) (fits : h ≤ m * h) where
      first_low : (i : ℕ) → i < h → is_first test i ≡ true
      first_low i low = not_from_false (list_any (λ j. test j i) (row_numbers i)) (list_any_none (λ j. test j i) (row_numbers i) (each_row (λ j. test j i ≡ false) i (λ j under.
          by_row j i (omega (arith, under, low, fits)) (omega (arith, low, fits))
          ∙ ne_eqb (j % h) (i % h) (λ e. absurd (omega (arith, e, small j (omega (arith, under, low)), small i low, under))))))

      first_high : (i : ℕ) → h ≤ i → i < m * h → is_first test i ≡ false
      first_high i high low =
          let r : ℕ = i % h in
          let under : r < h = mod_below i h some in
          let place : get_or (row_numbers i) r 0 ≡ r = omega (arith, get_or-range_with_len 0 i r 0 (omega (arith, under, high))) in
          not_from_true (list_any (λ j. test j i) (row_numbers i)) (list_any_at (λ j. test j i) (row_numbers i) r 0 (omega (arith, under, high, length-range_with_len 0 i))
          (ap (λ (j : ℕ). test j i) place ∙ by_row r i (omega (arith, under, fits)) low ∙ eq-eqb (r % h) (i % h) (small r under)))

      pub first_ones : first_rows test (m * h) ≡ row_numbers h
      first_ones = below (is_first test) h (m * h) fits first_low first_high

    -- rows that are told apart by their column
    module _ (by_column : (i j : ℕ) → i < m * h → j < m * h → test i j ≡ eqb (i / h) (j / h)) where
      first_here : (a : ℕ) → a * h < m * h → is_first test (a * h) ≡ true
      first_here a low = not_from_false (list_any (λ j. test j (a * h)) (row_numbers (a * h))) (list_any_none (λ j. test j (a * h)) (row_numbers (a * h)) (each_row (λ j. test j (a * h) ≡ false) (a * h) (λ j under.
          by_column j (a * h) (omega (arith, under, low)) low
          ∙ ne_eqb (j / h) ((a * h) / h) (λ e.
          let column : j / h ≡ a = e ∙ multiple a in
          let place : a * h + j % h ≡ j = (λ t. sym column t * h + j % h) ∙ div-add-mod' j h in
          absurd (omega (arith, place, under))))))

      first_later : (i : ℕ) → i < m * h → 0 < i % h → is_first test i ≡ false
      first_later i low later =
          let j : ℕ = (i / h) * h in
          let before : j < i = omega (arith, div-add-mod' i h, later) in
          let place : get_or (row_numbers i) j 0 ≡ j = omega (arith, get_or-range_with_len 0 i j 0 before) in
          not_from_true (list_any (λ k. test k i) (row_numbers i)) (list_any_at (λ k. test k i) (row_numbers i) j 0 (omega (arith, before, length-range_with_len 0 i))
          (ap (λ (k : ℕ). test k i) place ∙ by_column j i (omega (arith, before, low)) low ∙ eq-eqb (j / h) (i / h) (multiple (i / h))))

      heads : (n : ℕ) → n ≤ m → filter (is_first test) (row_numbers (n * h)) ≡ map (λ k. k * h) (row_numbers n)
      heads zero fits = let z : 0 * h ≡ 0 = omega arith in ap (λ (k : ℕ). filter (is_first test) (row_numbers k)) z
      heads (suc n) fits =
          let g : ℕ = h - 1 in
          let one : n + 1 ≡ suc n = omega arith in
          let whole : suc n * h ≡ n * h + suc g = omega (arith, some) in
          let last : n * h + suc g ≤ m * h = let up = row_fits n h m h (omega (arith, fits)) (omega arith) in omega (arith, up, some) in
          ap (filter (is_first test)) (cut (suc n * h) (n * h) (suc g) whole) ∙ filter-append (is_first test) (row_numbers (n * h)) (range_with_len (n * h) (suc g))
          ∙ ap (λ (ys : List ℕ). ys ++ filter (is_first test) (range_with_len (n * h) (suc g))) (heads n (omega (arith, fits)))
          ∙ ap (λ (ys : List ℕ). map (λ k. k * h) (row_numbers n) ++ ys) (one_passes (is_first test) (n * h) g (first_here n (omega (arith, last)))
          (λ i over to.
          let r : ℕ = i - n * h in
          let is : i ≡ n * h + r = omega (arith, over) in
          let rest : i % h ≡ r = ap (λ (k : ℕ). k % h) is ∙ mod-mul-add n h r (omega (arith, over, to, some)) in
          first_later i (omega (arith, to, last)) (omega (arith, rest, over))))
          ∙ sym (map_push (λ k. k * h) (row_numbers n) n)
          ∙ ap (map (λ k. k * h)) (sym (row_numbers_more n))
          ∙ ap (λ (k : ℕ). map (λ j. j * h) (row_numbers k)) one

      pub first_of_each : first_rows test (m * h) ≡ map (λ k. k * h) (row_numbers m)
      first_of_each = heads m (omega arith)

  -- by both a row stands alone
  pub one_row_each : (m : ℕ) (rows columns : ℕ → ℕ → Bool) → ((i j : ℕ) → i < m * h → j < m * h → rows i j ≡ eqb (i % h) (j % h)) → ((i j : ℕ) → i < m * h → j < m * h → columns i j ≡ eqb (i / h) (j / h)) → (x k : ℕ) → x < h → k < m
      → filter (λ i. rows x i && columns (k * h) i) (row_numbers (m * h)) ≡ (k * h + x) ∷ []
  one_row_each m rows columns by_row by_column x k low under =
      let n : ℕ = m * h in
      let up : k * h + h ≤ n = row_fits k h m h under (omega arith) in
      let at : ℕ = k * h + x in
      let p : ℕ → Bool = λ i. rows x i && columns (k * h) i in
      filter_same p (eqb at) (row_numbers n) (each_row (λ i. p i ≡ eqb at i) n (λ i within.
      let left : rows x i ≡ eqb x (i % h) = by_row x i (omega (arith, low, up)) within ∙ ap (λ (r : ℕ). eqb r (i % h)) (small x low) in
      let right : columns (k * h) i ≡ eqb k (i / h) = by_column (k * h) i (omega (arith, up, some)) within ∙ ap (λ (r : ℕ). eqb r (i / h)) (multiple k) in
      (λ t. left t && right t)
      ∙ sym (same_place h x k (i % h) (i / h) low (mod_below i h some))
      ∙ ap (eqb at) (div-add-mod' i h)))
      ∙ alone at n (omega (arith, low, up))
