-- Keys that stand on two rows.
use Rattle.std.proofs.Common.{◌≡◌, ◌≢◌, ℕ, zero, suc, ◌+◌, ◌<◌, ◌≤◌, ◌⊎◌, inl, inr, Bool, true, false, cond, List, [], ◌∷◌, length, get_or, refl, ap, sym, subst, ◌∙◌, arith, Option, Some, None, unwrap_or, true≢false, length-append, nat_lt}
use Rattle.std.specs.Prelude.{filter, map}
use Rattle.std.specs.Map.{lookup}
use Rattle.std.proofs.lemmas.List.{length-map}
use Rattle.std.specs.Cmp.{IsEquivalence}
use Rattle.std.specs.List.{list_any}
use Rattle.tb_value.specs.Promise.Pairs.{row_numbers}
use Rattle.tb_value.proofs.RowNumbers.{any_more, any_stop}
use Rattle.tb_build.specs.Keys.{key_twins, keys_match, rows_match, rows_with}
use Rattle.tb_build.specs.KeyRows.{AreKeyRows, HasNoTwins, HasTwins, KeyRows}
use Rattle.tb_build.proofs.Lists.{filter-more}
use Rattle.tb_build.proofs.Rows.{unwrap-entry}

decide_row : (i m : ℕ) → (i ≡ m) ⊎ (i ≢ m)
decide_row i m = grind arith

module _ (p : ℕ → Bool) where
  -- how many rows pass, one row more
  count-more : (n : ℕ) (b : Bool) → p n ≡ b → length (filter p (row_numbers (n + 1))) ≡ length (filter p (row_numbers n)) + cond b 1 0
  count-more n b e =
      ap length (filter-more p n) ∙ length-append (filter p (row_numbers n)) (cond (p n) (n ∷ []) [])
      ∙ ap (λ (c : Bool). length (filter p (row_numbers n)) + length (cond c (n ∷ []) [])) e ∙ by b
    where
      by : (b : Bool) → length (filter p (row_numbers n)) + length (cond b (n ∷ []) []) ≡ length (filter p (row_numbers n)) + cond b 1 0
      by true = refl
      by false = refl

  -- where a row passes, and where two do
  one-passes : (n : ℕ) → 0 < length (filter p (row_numbers n)) → (i : ℕ) × (i < n) × (p i ≡ true)
  one-passes zero h = absurd (omega (arith, h))
  one-passes (suc n) h = by (p n) refl (one-passes n)
    where
      last : n + 1 ≡ suc n
      last = omega arith

      some : 0 < length (filter p (row_numbers (n + 1)))
      some = subst (λ m. 0 < length (filter p (row_numbers m))) (sym last) h

      by : (b : Bool) → p n ≡ b → (0 < length (filter p (row_numbers n)) → (i : ℕ) × (i < n) × (p i ≡ true)) → (i : ℕ) × (i < suc n) × (p i ≡ true)
      by true e before = (n, omega arith, e)
      by false e before =
          let count = count-more n false e in
          let w = before (omega (arith, some, count)) in
          (w.0, omega (arith, w.1), w.2)

  pub two-pass : (n : ℕ) → 1 < length (filter p (row_numbers n)) → (i : ℕ) × (j : ℕ) × (i < j) × (j < n) × (p i ≡ true) × (p j ≡ true)
  two-pass zero h = absurd (omega (arith, h))
  two-pass (suc n) h = by (p n) refl (two-pass n)
    where
      last : n + 1 ≡ suc n
      last = omega arith

      two : 1 < length (filter p (row_numbers (n + 1)))
      two = subst (λ m. 1 < length (filter p (row_numbers m))) (sym last) h

      by : (b : Bool) → p n ≡ b → (1 < length (filter p (row_numbers n)) → (i : ℕ) × (j : ℕ) × (i < j) × (j < n) × (p i ≡ true) × (p j ≡ true))
          → (i : ℕ) × (j : ℕ) × (i < j) × (j < suc n) × (p i ≡ true) × (p j ≡ true)
      by true e before =
          let count = count-more n true e in
          let w = one-passes n (omega (arith, two, count)) in
          (w.0, n, w.1, omega arith, w.2, e)
      by false e before =
          let count = count-more n false e in
          let w = before (omega (arith, two, count)) in
          (w.0, w.1, w.2, omega (arith, w.3), w.4, w.5)

  -- as many are kept
  one-kept : (n i : ℕ) → i < n → p i ≡ true → 0 < length (filter p (row_numbers n))
  one-kept zero i l e = absurd (omega (arith, l))
  one-kept (suc n) i l e = subst (λ m. 0 < length (filter p (row_numbers m))) last (by (p n) refl (decide_row i n) (one-kept n i))
    where
      last : n + 1 ≡ suc n
      last = omega arith

      by : (b : Bool) → p n ≡ b → (i ≡ n) ⊎ (i ≢ n) → (i < n → p i ≡ true → 0 < length (filter p (row_numbers n))) → 0 < length (filter p (row_numbers (n + 1)))
      by true f d before = let count = count-more n true f in omega (arith, count)
      by false f (inl d) before = absurd (true≢false (sym e ∙ ap p d ∙ f))
      by false f (inr d) before = let count = count-more n false f in let some = before (omega (arith, l, d)) e in omega (arith, count, some)

  pub two-kept : (n i j : ℕ) → i < j → j < n → p i ≡ true → p j ≡ true → 1 < length (filter p (row_numbers n))
  two-kept zero i j m l e f = absurd (omega (arith, l))
  two-kept (suc n) i j m l e f = subst (λ m. 1 < length (filter p (row_numbers m))) last (by (p n) refl (decide_row j n) (two-kept n i j m))
    where
      last : n + 1 ≡ suc n
      last = omega arith

      by : (b : Bool) → p n ≡ b → (j ≡ n) ⊎ (j ≢ n) → (j < n → p i ≡ true → p j ≡ true → 1 < length (filter p (row_numbers n))) → 1 < length (filter p (row_numbers (n + 1)))
      by true q d before = let count = count-more n true q in let some = one-kept n i (omega (arith, m, l)) e in omega (arith, count, some)
      by false q (inl d) before = absurd (true≢false (sym f ∙ ap p d ∙ q))
      by false q (inr d) before = let count = count-more n false q in let two = before (omega (arith, l, d)) e f in omega (arith, count, two)

  -- no row passes
  pub none-passes : (n : ℕ) → ((i : ℕ) → i < n → p i ≡ false) → list_any p (row_numbers n) ≡ false
  none-passes zero h = refl
  none-passes (suc n) h =
      let last : n + 1 ≡ suc n = omega arith in
      subst (λ m. list_any p (row_numbers m) ≡ false) last (any_more p n (none-passes n (λ i l. h i (omega (arith, l)))) (h n (omega arith)))

module _ {K : Type 0} (eq : K → K → Bool) (laws : IsEquivalence eq) (nulls : Bool) (keys : List (Option K)) where
  -- two rows whose keys match
  found : (i j : ℕ) → i < j → j < length keys → keys_match eq nulls (get_or keys i None) (get_or keys j None) ≡ true → true ≡ key_twins eq nulls keys
  found i j m l h =
      any_stop (λ j. list_any (λ i. rows_match eq nulls keys keys i j) (row_numbers j)) j (length keys) l
      (sym (any_stop (λ i. rows_match eq nulls keys keys i j) i j m h))

  -- a key with two rows
  pub twins-of_key : (k : K) → 1 < length (rows_with eq true keys (Some k) (length keys)) → true ≡ key_twins eq nulls keys
  twins-of_key k two =
      let w = two-pass (λ j. keys_match eq true (Some k) (get_or keys j None)) (length keys) two in
      found w.0 w.1 w.2 w.3 (both (get_or keys w.0 None) (get_or keys w.1 None) w.4 w.5)
    where
      both : (a b : Option K) → keys_match eq true (Some k) a ≡ true → keys_match eq true (Some k) b ≡ true → keys_match eq nulls a b ≡ true
      both None b e f = absurd (true≢false (sym e))
      both (Some x) None e f = absurd (true≢false (sym f))
      both (Some x) (Some y) e f = sym (laws.congr k x y e) ∙ f

  -- two rows without one, where absent keys match
  pub twins-bare : nulls ≡ true → 1 < length (rows_with eq true keys None (length keys)) → true ≡ key_twins eq nulls keys
  twins-bare on two =
      let w = two-pass (λ j. keys_match eq true None (get_or keys j None)) (length keys) two in
      found w.0 w.1 w.2 w.3 (both (get_or keys w.0 None) (get_or keys w.1 None) w.4 w.5)
    where
      both : (a b : Option K) → keys_match eq true None a ≡ true → keys_match eq true None b ≡ true → keys_match eq nulls a b ≡ true
      both None None e f = on
      both None (Some y) e f = absurd (true≢false (sym f))
      both (Some x) b e f = absurd (true≢false (sym e))

  -- a row for each key at most, and one without a key where absent keys match
  pub no-twins : ((k : K) → length (rows_with eq true keys (Some k) (length keys)) ≤ 1) → (nulls ≡ true → length (rows_with eq true keys None (length keys)) ≤ 1)
      → false ≡ key_twins eq nulls keys
  no-twins lone bare =
      sym (none-passes (λ j. list_any (λ i. rows_match eq nulls keys keys i j) (row_numbers j)) (length keys)
      (λ j l. none-passes (λ i. rows_match eq nulls keys keys i j) j (λ i m. differ i j m l (get_or keys i None) (get_or keys j None) refl refl)))
    where
      tests : Option K → ℕ → Bool
      tests key j = keys_match eq true key (get_or keys j None)

      is-false : (b : Bool) → (b ≡ true → true ≡ false) → b ≡ false
      is-false true h = h refl
      is-false false h = refl

      differ : (i j : ℕ) → i < j → j < length keys → (a b : Option K) → get_or keys i None ≡ a → get_or keys j None ≡ b → keys_match eq nulls a b ≡ false
      differ i j m l (Some x) (Some y) e f = is-false (eq x y) (λ h.
          let two = two-kept (tests (Some x)) (length keys) i j m l (ap (keys_match eq true (Some x)) e ∙ laws.refl x) (ap (keys_match eq true (Some x)) f ∙ h) in
          absurd (omega (arith, two, lone x)))
      differ i j m l (Some x) None e f = refl
      differ i j m l None (Some y) e f = refl
      differ i j m l None None e f = is-false nulls (λ on.
          let two = two-kept (tests None) (length keys) i j m l (ap (keys_match eq true None) e) (ap (keys_match eq true None) f) in
          absurd (omega (arith, two, bare on)))

-- what the table of all keys tells
module _ {K : Type 0} (eq : K → K → Bool) (laws : IsEquivalence eq) (nulls : Bool) (keys : List (Option K)) (t : KeyRows K) (are : AreKeyRows eq (λ j. 0 + j) keys t) where
  rows-long : (k : K) → length (unwrap_or (lookup (eq k) t.entries) []) ≡ length (rows_with eq true keys (Some k) (length keys))
  rows-long k =
      let rows = rows_with eq true keys (Some k) (length keys) in
      ap (λ o. length (unwrap_or o [])) (are.entries k) ∙ ap length (unwrap-entry (map (λ j. 0 + j) rows)) ∙ length-map rows (λ j. 0 + j)

  bare-long : length t.bare ≡ length (rows_with eq true keys None (length keys))
  bare-long = ap length are.bare ∙ length-map (rows_with eq true keys None (length keys)) (λ j. 0 + j)

  pub told-twins : HasTwins eq t → true ≡ key_twins eq nulls keys
  told-twins w = twins-of_key eq laws nulls keys w.0 (omega (arith, w.1, rows-long w.0))

  -- where no key has two rows, those without a key tell
  module _ (lone : HasNoTwins eq t) where
    one : (k : K) → length (rows_with eq true keys (Some k) (length keys)) ≤ 1
    one k = let few = lone k in omega (arith, few, rows-long k)

    pub told-off : nulls ≡ false → false ≡ key_twins eq nulls keys
    told-off off = no-twins eq laws nulls keys one (λ on. absurd (true≢false (sym on ∙ off)))

    pub told-bare : nulls ≡ true → nat_lt 1 (length t.bare) ≡ key_twins eq nulls keys
    told-bare on = by (nat_lt 1 (length t.bare)) refl
      where
        is-less : (n : ℕ) → nat_lt 1 n ≡ true → 1 < n
        is-less n e = grind (arith, e)

        is-not : (n : ℕ) → nat_lt 1 n ≡ false → n ≤ 1
        is-not n e = grind (arith, e)

        by : (two : Bool) → nat_lt 1 (length t.bare) ≡ two → two ≡ key_twins eq nulls keys
        by true e = twins-bare eq laws nulls keys on (let m = is-less (length t.bare) e in omega (arith, m, bare-long))
        by false e = no-twins eq laws nulls keys one (λ on. let m = is-not (length t.bare) e in omega (arith, m, bare-long))
