-- The first row of each code, and when it is the first row of the same values.
use Rattle.std.proofs.Common.{◌≡◌, ◌∙◌, ◌+◌, ◌<◌, ◌≤◌, ℕ, Bool, true, false, cond, eqb, List, [], ◌∷◌, get_or, length, Option, Some, None, refl, sym, ap, arith, ⊎_elim}
use Rattle.std.specs.Prelude.{unwrap_or}
use Rattle.std.specs.Borrow.{Bor}
use Rattle.std.specs.Cmp.{IsEquivalence, Equal-is, nat_cmp_is, nat_eq_equiv}
use Rattle.std.specs.FinMap.{nat_cmp-IsAntisymmetric}
use Rattle.std.specs.List.{find, position_or_len}
use Rattle.std.specs.Option.{option_or}
use Rattle.std.specs.Ordering.{is_eq, nat_cmp}
use Rattle.std.specs.declared.cmp.Ordering.TheVariants.{Equal}
use Rattle.std.proofs.lemmas.Bool.{both_ways, cases_lt, eq-eqb, eqb-true, false_from_ne_true}
use Rattle.std.proofs.lemmas.List.{get_or_past}
use Rattle.std.proofs.lemmas.List.FromFn.{get_or-map-range_with_len, length-map-range_with_len, length-range_with_len}
use Rattle.std.proofs.lemmas.List.Folds.{find-append, find_at}
use Rattle.std.proofs.lemmas.List.Sums.{fails_before_first, passes_at_first, position_or_len_is}
use Rattle.std.proofs.lemmas.Option.{unwrap_or-slice_get}
use Rattle.tb_value.proofs.RowNumbers.{row_numbers_more}
use Rattle.tb_value.specs.Promise.Pairs.{row_numbers}
use Rattle.tb_value.specs.Proved.ValueTests.{pulled}
use Rattle.tb_chunk.specs.Promise.Col.{Col}
use Rattle.tb_rows.specs.Coded.{coded_row, coded_rows, leader, named_code, no_row, row_in, same_code, same_values, AreAsLed, AreCoded, AreLeaders}
use Rattle.tb_rows.specs.Fields.{fields_at, row_code, same_at}
use Rattle.tb_rows.specs.InGroups.{named_rows}
use Rattle.tb_rows.specs.Proved.KeyTests.{fields-Decides}
use Rattle.tb_rows.specs.declared.coded.CodedRow.{CodedRow}
use Rattle.tb_rows.proofs.Leaders.{both, leader_low, not_before, place-map, row_at}
use Rattle.tb_numbered.proofs.NumberedRows.{map-agree_below}

tie_is : (c q : ℕ) → is_eq (nat_cmp c q) ≡ eqb c q
tie_is c q =
    both (is_eq (nat_cmp c q)) (eqb c q)
    (λ e. eq-eqb c q (nat_cmp-IsAntisymmetric c q ((Equal-is (nat_cmp c q)).0 e)))
    (λ e. ap is_eq (sym (nat_cmp_is c q Equal (eqb-true c q e))))

some_or : (o : Option ℕ) (p : ℕ) → option_or o (Some p) ≡ Some (unwrap_or o p)
some_or None p = refl
some_or (Some k) p = refl

or_none : (o : Option ℕ) → option_or o None ≡ o
or_none None = refl
or_none (Some k) = refl

module _ (code : ℕ → ℕ) where
  -- the first of the first p rows with a code
  abbrev pub first_with : ℕ → ℕ → Option ℕ
  first_with p q = find (λ i. eqb (code i) q) (row_numbers p)

  -- what is kept of one row more
  pub first_more : (p q : ℕ) → first_with (p + 1) q ≡ cond (eqb (code p) q) (Some (unwrap_or (first_with p q) p)) (first_with p q)
  first_more p q =
      ap (find (λ i. eqb (code i) q)) (row_numbers_more p) ∙ find-append (λ i. eqb (code i) q) (row_numbers p) (p ∷ []) ∙ by (eqb (code p) q)
    where
      by : (b : Bool) → option_or (first_with p q) (cond b (Some p) None) ≡ cond b (Some (unwrap_or (first_with p q) p)) (first_with p q)
      by true = some_or (first_with p q) p
      by false = or_none (first_with p q)

  -- a map that keeps the first places keeps them with one row more
  pub kept_more : (p c : ℕ) (old new : ℕ → Option ℕ) → c ≡ code p → ((q : ℕ) → old q ≡ first_with p q)
      → ((q : ℕ) → new q ≡ cond (is_eq (nat_cmp c q)) (Some (unwrap_or (old c) p)) (old q)) → (q : ℕ) → new q ≡ first_with (p + 1) q
  kept_more p c old new is was grown q =
      grown q ∙ ap (λ b. cond b (Some (unwrap_or (old c) p)) (old q)) (tie_is c q) ∙ by (eqb c q) refl
      ∙ ap (λ d. cond (eqb d q) (Some (unwrap_or (first_with p q) p)) (first_with p q)) is
      ∙ sym (first_more p q)
    where
      by : (b : Bool) → eqb c q ≡ b → cond b (Some (unwrap_or (old c) p)) (old q) ≡ cond b (Some (unwrap_or (first_with p q) p)) (first_with p q)
      by true e = ap (λ o. Some (unwrap_or o p)) (was c ∙ ap (first_with p) (eqb-true c q e))
      by false e = was q

  abbrev test : ℕ → ℕ → Bool
  test i j = eqb (code i) (code j)

  -- the first row with its code is the row's leader
  pub first_leads : (n p : ℕ) → p < n → unwrap_or (first_with p (code p)) p ≡ leader test n p
  first_leads n p low =
      let t : ℕ → Bool = λ i. eqb (code i) (code p) in
      let m : ℕ = position_or_len t (row_numbers p) in
      let long : length (row_numbers p) ≡ p = length-range_with_len 0 p in
      let all : length (row_numbers n) ≡ n = length-range_with_len 0 n in
      let at : unwrap_or (first_with p (code p)) p ≡ get_or (row_numbers p) m p = ap (λ o. unwrap_or o p) (find_at t (row_numbers p)) ∙ unwrap_or-slice_get (row_numbers p) m p in
      let before : (k : ℕ) → k < p → k < m → t (get_or (row_numbers n) k 0) ≡ false = λ k below l.
      ap t (row_at n k 0 (omega (arith, below, low)) ∙ sym (row_at p k 0 below)) ∙ fails_before_first t (row_numbers p) k 0 l in
      ⊎_elim
      (λ (found : m < p).
      at ∙ row_at p m p found
      ∙ sym (position_or_len_is t (row_numbers n) m 0 (omega (arith, all, found, low)) (λ k l. before k (omega (arith, l, found)) l)
      (λ l. ap t (row_at n m 0 (omega (arith, found, low)) ∙ sym (row_at p m 0 found)) ∙ passes_at_first t (row_numbers p) 0 (omega (arith, found, long)))))
      (λ (none : p ≤ m).
      at ∙ get_or_past (row_numbers p) m p (omega (arith, long, none))
      ∙ sym (position_or_len_is t (row_numbers n) p 0 (omega (arith, all, low)) (λ k l. before k l (omega (arith, l, none)))
      (λ l. ap t (row_at n p 0 low) ∙ eq-eqb (code p) (code p) refl)))
      (cases_lt m p)

  pub test_equiv : IsEquivalence test
  test_equiv = pulled code nat_eq_equiv

-- THE ROWS OF COLUMNS

-- leaders by codes are leaders where each row has the values of its own
module _ (cs : List (Bor Col)) (name : ℕ → ℕ) (n : ℕ) (leaders : List ℕ) (led : AreLeaders (same_code cs name) n leaders) where
  -- a leader is a row
  pub leads_low : (j : ℕ) → j < n → get_or leaders j 0 < n
  leads_low j low =
      let no_later = leader_low (same_code cs name) (test_equiv (named_code cs name)) n j low in
      omega (arith, led.each j low, no_later, low)

  -- rows of the same values have one code
  one_code : (i j : ℕ) → named_rows name (same_at cs) i j ≡ true → same_code cs name i j ≡ true
  one_code i j e = eq-eqb (named_code cs name i) (named_code cs name j) (ap row_code ((fields-Decides (fields_at cs (name i)) (fields_at cs (name j))).0 e))

  leader_is : AreAsLed cs name leaders n → (j : ℕ) → j < n → get_or leaders j 0 ≡ leader (named_rows name (same_at cs)) n j
  leader_is as_led j low =
      let test : ℕ → ℕ → Bool = named_rows name (same_at cs) in
      let l : ℕ = leader (same_code cs name) n j in
      let is : get_or leaders j 0 ≡ l = led.each j low in
      let no_later : l ≤ j = leader_low (same_code cs name) (test_equiv (named_code cs name)) n j low in
      let there : l < n = omega (arith, no_later, low) in
      let own : test l j ≡ true = sym (ap (λ k. test k j) is) ∙ as_led j low in
      is ∙ sym (position_or_len_is (λ i. test i j) (row_numbers n) l 0 (omega (arith, there, length-range_with_len 0 n))
      (λ k before.
      let under : k < n = omega (arith, before, there) in
      let not : same_code cs name k j ≡ false = not_before (same_code cs name) (test_equiv (named_code cs name)) n j k under before in
      ap (λ i. test i j) (row_at n k 0 under) ∙ false_from_ne_true (test k j) (λ e. both_ways (same_code cs name k j) not (one_code k j e)))
      (λ within. ap (λ i. test i j) (row_at n l 0 there) ∙ own))

  pub are_leaders : AreAsLed cs name leaders n → AreLeaders (named_rows name (same_at cs)) n leaders
  are_leaders as_led = record { count = led.count; each = leader_is as_led }

-- ROWS BY THEIR NAMES

module _ (cs : List (Bor Col)) (name : ℕ → ℕ) (n : ℕ) (rows : List CodedRow) (are : rows ≡ coded_rows cs name n) where
  pub rows_long : length rows ≡ n
  rows_long = ap length are ∙ length-map-range_with_len (coded_row cs name) 0 n

  row_named : (j : ℕ) → j < n → row_in rows j ≡ name j
  row_named j low = ap (λ (rs : List CodedRow). (get_or rs j no_row).row) are ∙ ap (λ (r : CodedRow). r.row) (get_or-map-range_with_len (coded_row cs name) 0 n j j no_row low (omega arith))

  -- rows with codes are those that they are called
  pub own_coded : AreCoded cs rows
  own_coded =
      are
      ∙ map-agree_below (coded_row cs name) (coded_row cs (row_in rows)) n no_row
      (λ j low. ap (λ (i : ℕ). coded_row cs (λ _. i) j) (sym (row_named j low)))
      ∙ ap (coded_rows cs (row_in rows)) (sym rows_long)

  leader_named : (j : ℕ) → j < n → leader (same_values cs rows) n j ≡ leader (named_rows name (same_at cs)) n j
  leader_named j low =
      let p : ℕ → Bool = λ i. same_at cs i (row_in rows j) in
      sym (place-map p (row_in rows) (row_numbers n)) ∙ ap (position_or_len p) (map-agree_below (row_in rows) name n 0 row_named) ∙ place-map p name (row_numbers n)
      ∙ ap (λ (k : ℕ). position_or_len (λ i. same_at cs (name i) k) (row_numbers n)) (row_named j low)

  -- and so are their leaders
  pub leaders_named : (leaders : List ℕ) → AreLeaders (same_values cs rows) (length rows) leaders → AreLeaders (named_rows name (same_at cs)) n leaders
  leaders_named leaders led = record {
    count = led.count ∙ rows_long;
    each = λ j low. led.each j (omega (arith, low, rows_long)) ∙ ap (λ m. leader (same_values cs rows) m j) rows_long ∙ leader_named j low;
  }
