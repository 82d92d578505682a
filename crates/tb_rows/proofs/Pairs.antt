-- Rows in groups by two groupings: what is kept for a first number leads the rows that have the second one too.
use Rattle.std.proofs.Common.{◌≡◌, ◌≢◌, ◌∙◌, ◌+◌, ◌<◌, ◌≤◌, ◌==◌, ◌⊎◌, inl, inr, ℕ, zero, suc, Bool, true, false, cond, List, [], ◌∷◌, filter, get_or, length, Option, Some, None, eqb-true, refl, sym, ap, subst, arith, slice_set as set}
use Rattle.std.specs.Prelude.{IfSome}
use Rattle.std.specs.Cmp.{IsEquivalence}
use Rattle.std.specs.List.{All, AllPairs}
use Rattle.std.proofs.lemmas.Bool.{and_from, and_parts, both_ways, cases_lt, eq-eqb}
use Rattle.std.proofs.lemmas.Cmp.{and_equiv, nat_eq_equiv, on_equiv}
use Rattle.std.proofs.lemmas.List.{get_or-set_other, get_or-set_same, length-set}
use Rattle.std.proofs.lemmas.List.Elements.{All-filter, All-get_or, filter_passes}
use Rattle.std.proofs.lemmas.List.FromFn.{get_or-range_with_len, length-range_with_len}
use Rattle.std.proofs.lemmas.List.Kept.{AllPairs-filter}
use Rattle.tb_value.proofs.RowNumbers.{rows_below}
use Rattle.tb_value.specs.Promise.Pairs.{row_numbers}
use Rattle.tb_numbered.specs.Numbered.{numbered_rows}
use Rattle.tb_numbered.proofs.Places.{tells}
use Rattle.tb_rows.specs.Both.{kept_or, same_pair, AreKept, AreLedBelow, ArePairs}
use Rattle.tb_rows.specs.Coded.{leader, AreLeaders}
use Rattle.tb_rows.proofs.Leaders.{leader_low, leader_same, leaders_agree}

-- an element that passes is kept
kept_at : (p : ℕ → Bool) (xs : List ℕ) (i : ℕ) → i < length xs → p (get_or xs i 0) ≡ true → (q : ℕ) × (q < length (filter p xs)) × (get_or (filter p xs) q 0 ≡ get_or xs i 0)
kept_at p [] i low h = absurd (omega arith)
kept_at p (x ∷ xs) zero low h =
    let here : (1 ≤ length (filter p (x ∷ xs))) × (get_or (filter p (x ∷ xs)) 0 0 ≡ x) = by (p x) h in
    (0, omega (arith, here.0), here.1)
  where
    by : (b : Bool) → b ≡ true → (1 ≤ length (cond b (x ∷ filter p xs) (filter p xs))) × (get_or (cond b (x ∷ filter p xs) (filter p xs)) 0 0 ≡ x)
    by true e = (omega arith, refl)
    by false e = absurd (cc)
kept_at p (x ∷ xs) (suc i) low h = by (p x) (kept_at p xs i (omega arith) h)
  where
    by : (b : Bool) → (q : ℕ) × (q < length (filter p xs)) × (get_or (filter p xs) q 0 ≡ get_or xs i 0)
        → (q : ℕ) × (q < length (cond b (x ∷ filter p xs) (filter p xs))) × (get_or (cond b (x ∷ filter p xs) (filter p xs)) q 0 ≡ get_or xs i 0)
    by true at = (suc at.0, omega (arith, at.1), at.2)
    by false at = at

numbers_ascend : (n : ℕ) → AllPairs (λ a b. a < b) (row_numbers n)
numbers_ascend n = λ i j d less low.
    let under : j < n = omega (arith, low, length-range_with_len 0 n) in
    omega (arith, less, get_or-range_with_len 0 n i d (omega (arith, less, under)), get_or-range_with_len 0 n j d under)

module _ (xs ys : List ℕ) where
  abbrev test : ℕ → ℕ → Bool
  test = same_pair xs ys

  abbrev lead : ℕ → ℕ
  lead = leader test (length xs)

  pub same : IsEquivalence test
  same = and_equiv (on_equiv (λ i. get_or xs i 0) nat_eq_equiv) (on_equiv (λ i. get_or ys i 0) nat_eq_equiv)

  of_pair : (i j : ℕ) → test i j ≡ true → (get_or xs i 0 ≡ get_or xs j 0) × (get_or ys i 0 ≡ get_or ys j 0)
  of_pair i j h =
      let parts = and_parts (get_or xs i 0 == get_or xs j 0) (get_or ys i 0 == get_or ys j 0) h in
      (eqb-true (get_or xs i 0) (get_or xs j 0) parts.0, eqb-true (get_or ys i 0) (get_or ys j 0) parts.1)

  a_pair : (i j : ℕ) → get_or xs i 0 ≡ get_or xs j 0 → get_or ys i 0 ≡ get_or ys j 0 → test i j ≡ true
  a_pair i j e f = and_from (get_or xs i 0 == get_or xs j 0) (get_or ys i 0 == get_or ys j 0) (eq-eqb (get_or xs i 0) (get_or xs j 0) e) (eq-eqb (get_or ys i 0) (get_or ys j 0) f)

  lead_same : (i j : ℕ) → test i j ≡ true → lead i ≡ lead j
  lead_same i j h = leaders_agree test same (length xs) i j h

  lead_twice : (j : ℕ) → j < length xs → lead (lead j) ≡ lead j
  lead_twice j low = lead_same (lead j) j (leader_same test same (length xs) j low)

  lead_of : (j : ℕ) → j < length xs → (get_or xs (lead j) 0 ≡ get_or xs j 0) × (get_or ys (lead j) 0 ≡ get_or ys j 0)
  lead_of j low = of_pair (lead j) j (leader_same test same (length xs) j low)

  lead_low : (j : ℕ) → j < length xs → lead j ≤ j
  lead_low j low = leader_low test same (length xs) j low

  -- THE ROWS OF ONE SECOND NUMBER

  module _ (long : length ys ≡ length xs) (h : ℕ) where
    abbrev rows : List ℕ
    rows = numbered_rows ys h

    abbrev has : ℕ → Bool
    has j = get_or ys j 0 == h

    pub row_low : (q : ℕ) → q < length rows → get_or rows q 0 < length xs
    row_low q low = omega (arith, long, All-get_or (λ j. j < length ys) rows q 0 low (All-filter has (λ j. j < length ys) (row_numbers (length ys)) (rows_below (length ys))))

    row_has : (q : ℕ) → q < length rows → get_or ys (get_or rows q 0) 0 ≡ h
    row_has q low = eqb-true (get_or ys (get_or rows q 0) 0) h (All-get_or (λ j. has j ≡ true) rows q 0 low (filter_passes has (row_numbers (length ys))))

    row_found : (j : ℕ) → j < length xs → get_or ys j 0 ≡ h → (q : ℕ) × (q < length rows) × (get_or rows q 0 ≡ j)
    row_found j low e =
        let at : get_or (row_numbers (length ys)) j 0 ≡ j = get_or-range_with_len 0 (length ys) j 0 (omega (arith, low, long)) ∙ omega arith in
        let found = kept_at has (row_numbers (length ys)) j (omega (arith, low, long, length-range_with_len 0 (length ys))) (eq-eqb (get_or ys (get_or (row_numbers (length ys)) j 0) 0) h (ap (λ i. get_or ys i 0) at ∙ e)) in
        (found.0, found.1, found.2 ∙ at)

    rows_ascend : AllPairs (λ a b. a < b) rows
    rows_ascend = AllPairs-filter (λ a b. a < b) has (row_numbers (length ys)) (numbers_ascend (length ys))

-- the first p rows of second number h have their leaders, as the rows of smaller second numbers have
pub record Leading (xs ys : List ℕ) (h p : ℕ) (first kept : List (Option ℕ)) (leaders : List ℕ) : Type 0 where
  pub room : length kept ≡ length first
  pub kept_are : AreKept xs ys kept
  pub count : length leaders ≡ length xs
  pub each : (j : ℕ) → j < length xs → get_or ys j 0 < h → get_or leaders j 0 ≡ leader (same_pair xs ys) (length xs) j
  pub here : (q : ℕ) → q < p → get_or leaders (get_or (numbered_rows ys h) q 0) 0 ≡ leader (same_pair xs ys) (length xs) (get_or (numbered_rows ys h) q 0)
  pub last : (q : ℕ) → q < p → get_or kept (get_or xs (get_or (numbered_rows ys h) q 0) 0) None ≡ Some (leader (same_pair xs ys) (length xs) (get_or (numbered_rows ys h) q 0))

pub leading_none : (xs ys : List ℕ) (h : ℕ) (kept : List (Option ℕ)) (leaders : List ℕ) → AreLedBelow xs ys h kept leaders → Leading xs ys h 0 kept kept leaders
leading_none xs ys h kept leaders led = record {
  room = refl;
  kept_are = led.kept_are;
  count = led.count;
  each = led.each;
  here = λ q low. absurd (omega arith);
  last = λ q low. absurd (omega arith);
}

module _ (xs ys : List ℕ) (many : ℕ) (pairs : ArePairs xs ys many) (h p : ℕ) (low : p < length (numbered_rows ys h)) (first kept : List (Option ℕ)) (room : length first ≡ many)
    (leaders : List ℕ) (so_far : Leading xs ys h p first kept leaders) where
  abbrev row : ℕ
  row = get_or (numbered_rows ys h) p 0

  abbrev number : ℕ
  number = get_or xs row 0

  pub row_under : row < length xs
  row_under = row_low xs ys pairs.long h p low

  pub number_under : number < length kept
  number_under = omega (arith, pairs.below row row_under, room, so_far.room)

  of_h : get_or ys row 0 ≡ h
  of_h = row_has xs ys pairs.long h p low

  -- a row that isn't its own leader has one among the rows before it, which is kept
  kept_before : lead xs ys row < row → get_or kept number None ≡ Some (lead xs ys row)
  kept_before before =
      let l : ℕ = lead xs ys row in
      let numbers = lead_of xs ys row row_under in
      let found = row_found xs ys pairs.long h l (omega (arith, before, row_under)) (numbers.1 ∙ of_h) in
      let q : ℕ = found.0 in
      let is : get_or (numbered_rows ys h) q 0 ≡ l = found.2 in
      let earlier : q < p = place q found.1 is (cases_lt q p) in
      ap (λ k. get_or kept k None) (sym (ap (λ j. get_or xs j 0) is ∙ numbers.0)) ∙ so_far.last q earlier
      ∙ ap (λ (j : ℕ). Some (lead xs ys j)) is ∙ ap (λ (j : ℕ). Some j) (lead_twice xs ys row row_under)
    where
      place : (q : ℕ) → q < length (numbered_rows ys h) → get_or (numbered_rows ys h) q 0 ≡ lead xs ys row → (q < p) ⊎ (p ≤ q) → q < p
      place q under is (inl earlier) = earlier
      place q under is (inr later) = absurd (by (tells p q))
        where
          by : (p ≡ q) ⊎ (p ≢ q) → ⊥
          by (inl e) = omega (arith, before, is, ap (λ k. get_or (numbered_rows ys h) k 0) e)
          by (inr ne) = omega (arith, before, is, rows_ascend xs ys pairs.long h p q 0 (omega (arith, later, ne)) under)

  own_lead : (get_or kept number None ≡ Some (lead xs ys row) → ⊥) → row ≡ lead xs ys row
  own_lead none = by (cases_lt (lead xs ys row) row)
    where
      by : (lead xs ys row < row) ⊎ (row ≤ lead xs ys row) → row ≡ lead xs ys row
      by (inl before) = absurd (none (kept_before before))
      by (inr high) = omega (arith, high, lead_low xs ys row row_under)

  -- what is kept for the first number
  pub kept_fits : (o : Option ℕ) → o ≡ get_or kept number None → IfSome o (λ i. i < length ys)
  kept_fits None e = tt
  kept_fits (Some i) e = omega (arith, (so_far.kept_are number i number_under (sym e)).0, pairs.long)

  pub led_low : lead xs ys row < length xs
  led_low = omega (arith, lead_low xs ys row row_under, row_under)

  pub lead_is : (o : Option ℕ) → o ≡ get_or kept number None → kept_or o ys row ≡ lead xs ys row
  lead_is None e = own_lead (λ f. cc)
  lead_is (Some i) e = by (get_or ys i 0 == get_or ys row 0) refl
    where
      by : (b : Bool) → (get_or ys i 0 == get_or ys row 0) ≡ b → cond b i row ≡ lead xs ys row
      by true f =
          let kept_is = so_far.kept_are number i number_under (sym e) in
          sym kept_is.2 ∙ lead_same xs ys i row (a_pair xs ys i row kept_is.1 (eqb-true (get_or ys i 0) (get_or ys row 0) f))
      by false f =
          own_lead (λ g.
          let is : i ≡ lead xs ys row = cc in
          both_ways (get_or ys i 0 == get_or ys row 0) f (eq-eqb (get_or ys i 0) (get_or ys row 0) (ap (λ j. get_or ys j 0) is ∙ (lead_of xs ys row row_under).1)))

  leading_more : (l : ℕ) → l ≡ lead xs ys row → Leading xs ys h (p + 1) first (set kept number (Some l)) (set leaders row l)
  leading_more l is = record {
    room = length-set kept number (Some l) ∙ so_far.room;
    kept_are = λ k i under e. stays k i (omega (arith, under, length-set kept number (Some l))) e (tells k number);
    count = length-set leaders row l ∙ so_far.count;
    each = λ j under less. get_or-set_other leaders row j l 0 (λ e. omega (arith, less, of_h, ap (λ k. get_or ys k 0) e)) ∙ so_far.each j under less;
    here = λ q under. led q under (tells (get_or (numbered_rows ys h) q 0) row);
    last = λ q under. keeps q under (tells (get_or xs (get_or (numbered_rows ys h) q 0) 0) number);
  }
    where
      stays : (k i : ℕ) → k < length kept → get_or (set kept number (Some l)) k None ≡ Some i → (k ≡ number) ⊎ (k ≢ number)
          → (i < length xs) × (get_or xs i 0 ≡ k) × (lead xs ys i ≡ i)
      stays k i under e (inr ne) = so_far.kept_are k i under (sym (get_or-set_other kept number k (Some l) None ne) ∙ e)
      stays k i under e (inl same_number) =
          let put : get_or (set kept number (Some l)) k None ≡ Some l = ap (λ m. get_or (set kept number (Some l)) m None) same_number ∙ get_or-set_same kept number (Some l) None number_under in
          let own : i ≡ lead xs ys row = cc in
          let numbers = lead_of xs ys row row_under in (
            omega (arith, own, lead_low xs ys row row_under, row_under),
            ap (λ j. get_or xs j 0) own ∙ numbers.0 ∙ sym same_number,
            ap (lead xs ys) own ∙ lead_twice xs ys row row_under ∙ sym own,
          )

      led : (q : ℕ) → q < p + 1 → (get_or (numbered_rows ys h) q 0 ≡ row) ⊎ (get_or (numbered_rows ys h) q 0 ≢ row)
          → get_or (set leaders row l) (get_or (numbered_rows ys h) q 0) 0 ≡ lead xs ys (get_or (numbered_rows ys h) q 0)
      led q under (inl e) =
          ap (λ j. get_or (set leaders row l) j 0) e ∙ get_or-set_same leaders row l 0 (omega (arith, row_under, so_far.count)) ∙ is ∙ ap (lead xs ys) (sym e)
      led q under (inr ne) = get_or-set_other leaders row (get_or (numbered_rows ys h) q 0) l 0 ne ∙ so_far.here q (earlier (tells q p))
        where
          earlier : (q ≡ p) ⊎ (q ≢ p) → q < p
          earlier (inl e) = absurd (ne (ap (λ k. get_or (numbered_rows ys h) k 0) e))
          earlier (inr other) = omega (arith, under, other)

      keeps : (q : ℕ) → q < p + 1 → (get_or xs (get_or (numbered_rows ys h) q 0) 0 ≡ number) ⊎ (get_or xs (get_or (numbered_rows ys h) q 0) 0 ≢ number)
          → get_or (set kept number (Some l)) (get_or xs (get_or (numbered_rows ys h) q 0) 0) None ≡ Some (lead xs ys (get_or (numbered_rows ys h) q 0))
      keeps q under (inl e) =
          let j : ℕ = get_or (numbered_rows ys h) q 0 in
          let of_q : get_or ys j 0 ≡ h = row_has xs ys pairs.long h q (omega (arith, under, low)) in
          ap (λ k. get_or (set kept number (Some l)) k None) e ∙ get_or-set_same kept number (Some l) None number_under
          ∙ ap (λ (i : ℕ). Some i) (is ∙ lead_same xs ys row j (a_pair xs ys row j (sym e) (of_h ∙ sym of_q)))
      keeps q under (inr ne) = get_or-set_other kept number (get_or xs (get_or (numbered_rows ys h) q 0) 0) (Some l) None ne ∙ so_far.last q (earlier (tells q p))
        where
          earlier : (q ≡ p) ⊎ (q ≢ p) → q < p
          earlier (inl e) = absurd (ne (ap (λ k. get_or xs (get_or (numbered_rows ys h) k 0) 0) e))
          earlier (inr other) = omega (arith, under, other)

  pub leading_put : (r n l : ℕ) (o : Option ℕ) → r ≡ row → n ≡ number → o ≡ Some l → l ≡ lead xs ys row → Leading xs ys h (p + 1) first (set kept n o) (set leaders r l)
  leading_put r n l o row_is number_is kept_is is =
      let own : Leading xs ys h (p + 1) first (set kept number (Some l)) (set leaders row l) = leading_more l is in
      let at_row : Leading xs ys h (p + 1) first (set kept number (Some l)) (set leaders r l) = subst (λ i. Leading xs ys h (p + 1) first (set kept number (Some l)) (set leaders i l)) (sym row_is) own in
      let at_number : Leading xs ys h (p + 1) first (set kept n (Some l)) (set leaders r l) = subst (λ i. Leading xs ys h (p + 1) first (set kept i (Some l)) (set leaders r l)) (sym number_is) at_row in
      subst (λ (e : Option ℕ). Leading xs ys h (p + 1) first (set kept n e) (set leaders r l)) (sym kept_is) at_number

-- where all rows of the second number are led
pub leading_all : (xs ys : List ℕ) → length ys ≡ length xs → (h p : ℕ) → p ≡ length (numbered_rows ys h) → (first kept : List (Option ℕ)) (leaders : List ℕ)
    → Leading xs ys h p first kept leaders → AreLedBelow xs ys (h + 1) kept leaders
leading_all xs ys long h p end first kept leaders so_far = record {
  kept_are = so_far.kept_are;
  count = so_far.count;
  each = λ j low less. by j low less (tells (get_or ys j 0) h);
}
  where
    by : (j : ℕ) → j < length xs → get_or ys j 0 < h + 1 → (get_or ys j 0 ≡ h) ⊎ (get_or ys j 0 ≢ h) → get_or leaders j 0 ≡ leader (same_pair xs ys) (length xs) j
    by j low less (inr ne) = so_far.each j low (omega (arith, less, ne))
    by j low less (inl e) =
        let found = row_found xs ys long h j low e in
        ap (λ i. get_or leaders i 0) (sym found.2) ∙ so_far.here found.0 (omega (arith, found.1, end)) ∙ ap (leader (same_pair xs ys) (length xs)) found.2

-- before the first row nothing is kept, and in the end all rows are led
pub led_none : (xs ys : List ℕ) (kept : List (Option ℕ)) (leaders : List ℕ) → ((k : ℕ) → k < length kept → get_or kept k None ≡ None) → length leaders ≡ length xs → AreLedBelow xs ys 0 kept leaders
led_none xs ys kept leaders none count = record {
  kept_are = λ k i low e. absurd (let f = none k low in cc);
  count = count;
  each = λ j low less. absurd (omega (arith, less));
}

pub led_all : (xs ys : List ℕ) (h : ℕ) (kept : List (Option ℕ)) (leaders : List ℕ) → length ys ≡ length xs → All (λ k. k < h) ys → AreLedBelow xs ys h kept leaders
    → AreLeaders (same_pair xs ys) (length xs) leaders
led_all xs ys h kept leaders long below led = record {
  count = led.count;
  each = λ j low. led.each j low (All-get_or (λ k. k < h) ys j 0 (omega (arith, low, long)) below);
}
