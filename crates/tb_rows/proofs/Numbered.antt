-- Rows that are numbered by their leaders, one more at a time.
use Rattle.std.proofs.Common.{◌≡◌, ◌∙◌, ◌+◌, ◌<◌, ◌≤◌, ◌==◌, ℕ, Bool, true, false, cond, not, ◌&&◌, List, [], ◌∷◌, ◌++◌, get_or, length, map, Result, Ok, Err, IfOk, refl, sym, ap, subst, arith, eqb-true, ◌⊎◌, ◌≢◌, inl, inr}
use Rattle.std.specs.Prelude.{if◌then◌else◌}
use Rattle.std.specs.Borrow.{Bor}
use Rattle.std.specs.Cmp.{IsEquivalence}
use Rattle.std.specs.List.{All, list_any, position_or_len}
use Rattle.std.proofs.lemmas.Bool.{eq-eqb, not-true, both_ways}
use Rattle.std.proofs.lemmas.List.Folds.{list_any_at, list_any_none}
use Rattle.std.proofs.lemmas.List.FromFn.{get_or-map-range_with_len, get_or-range_with_len, length-map-range_with_len, length-range_with_len}
use Rattle.tb_value.specs.Promise.Pairs.{row_numbers}
use Rattle.tb_value.specs.Proved.ValueTests.{pulled}
use Rattle.tb_value.specs.Promise.Same.{same}
use Rattle.tb_chunk.specs.Promise.Col.{Col, values}
use Rattle.tb_rows.specs.Coded.{leader}
use Rattle.tb_rows.specs.Fields.{fields_at, same_at}
use Rattle.tb_rows.specs.Grouped.{AreGroups}
use Rattle.tb_rows.specs.InGroups.{named_rows}
use Rattle.tb_rows.specs.Names.{AreNamed}
use Rattle.tb_rows.specs.Proved.KeyTests.{fields_equiv}
use Rattle.tb_rows.specs.declared.names.RowNames.{RowNames}
use Rattle.tb_rows.specs.declared.names.RowNames.TheVariants.{From, Listed}
use Rattle.tb_rows.specs.declared.groups.Groups.{Groups}
use Rattle.tb_rows.specs.Promise.Rows.{first_rows, group_of, is_first, same_rows, row_value}
use Rattle.tb_rows.proofs.FirstRows.{at_end, few_firsts, first_any, firsts_more, groups_more, numbers_below}
use Rattle.tb_rows.proofs.Leaders.{leader_low, leader_same, not_before}
use Rattle.tb_numbered.proofs.Places.{tells}

module _ (test : ℕ → ℕ → Bool) (same : IsEquivalence test) (n m : ℕ) (l : m < n) where
  abbrev lead : ℕ
  lead = leader test n m

  low : lead ≤ m
  low = leader_low test same n m l

  pub leads_before : (lead == m) ≡ false → lead < m
  leads_before e = by (tells lead m)
    where
      by : (lead ≡ m) ⊎ (lead ≢ m) → lead < m
      by (inl h) = absurd (both_ways (lead == m) e (eq-eqb lead m h))
      by (inr h) = omega (arith, low, h)

  -- a row is a first one where it leads itself
  first_is : is_first test m ≡ (lead == m)
  first_is = by (lead == m) refl
    where
      p : ℕ → Bool
      p i = test i m

      by : (b : Bool) → (lead == m) ≡ b → is_first test m ≡ b
      by true e =
          let is : lead ≡ m = eqb-true lead m e in
          ap not (list_any_none p (row_numbers m) (λ k d h.
          let before : k < m = omega (arith, h, length-range_with_len 0 m) in
          ap p (get_or-range_with_len 0 m k d before ∙ omega arith) ∙ not_before test same n m k (omega (arith, before, l)) (omega (arith, before, is))))
      by false e =
          let before : lead < m = leads_before e in
          ap not (list_any_at p (row_numbers m) lead 0 (omega (arith, before, length-range_with_len 0 m))
          (ap p (get_or-range_with_len 0 m lead 0 before ∙ omega arith) ∙ leader_same test same n m l))

  pub firsts-step : (old new : List ℕ) (b : Bool) → b ≡ (lead == m) → new ≡ old ++ cond b (m ∷ []) [] → old ≡ first_rows test m → new ≡ first_rows test (m + 1)
  firsts-step old new b e put so = put ∙ ap (λ (ys : List ℕ). ys ++ cond b (m ∷ []) []) so ∙ sym (firsts_more test same m b (first_is ∙ sym e))

  -- the number of its leader, and a new one where it leads itself
  number_is : (firsts numbers : List ℕ) (b : Bool) → b ≡ (lead == m) → firsts ≡ first_rows test m → numbers ≡ map (group_of test m) (row_numbers m)
      → (if b then length firsts else get_or numbers lead 0) ≡ group_of test m m
  number_is firsts numbers true e f g =
      let none : list_any (λ i. test i m) (first_rows test m) ≡ false = not-true (list_any (λ i. test i m) (first_rows test m)) (sym (first_any test same m) ∙ first_is ∙ sym e) in
      ap length f ∙ sym (at_end (λ i. test i m) (first_rows test m) none)
  number_is firsts numbers false e f g =
      let before : lead < m = leads_before (sym e) in
      ap (λ (xs : List ℕ). get_or xs lead 0) g ∙ get_or-map-range_with_len (group_of test m) 0 m lead lead 0 before (omega arith)
      ∙ (λ t. position_or_len (λ i. each i t) (first_rows test m))
    where
      each : (i : ℕ) → test i lead ≡ test i m
      each i = same.symm i lead ∙ same.congr lead m i (leader_same test same n m l) ∙ same.symm m i

  pub numbers-step : (firsts old new : List ℕ) (b : Bool) (number : ℕ) → b ≡ (lead == m) → number ≡ (if b then length firsts else get_or old lead 0) → new ≡ old ++ number ∷ []
      → firsts ≡ first_rows test m → old ≡ map (group_of test m) (row_numbers m) → new ≡ map (group_of test (m + 1)) (row_numbers (m + 1))
  numbers-step firsts old new b number e is put f g = put ∙ (λ t. g t ++ (is ∙ number_is firsts old b e f g) t ∷ []) ∙ sym (groups_more test same m)

-- each row has the number of a group, and there are no more groups than rows
module _ (test : ℕ → ℕ → Bool) (same : IsEquivalence test) (n : ℕ) (firsts numbers : List ℕ) (firsts_are : firsts ≡ first_rows test n)
    (numbers_are : numbers ≡ map (group_of test n) (row_numbers n)) where
  pub numbers_fit : All (λ k. k < length firsts) numbers
  numbers_fit =
      subst (λ (ns : List ℕ). All (λ k. k < length firsts) ns) (sym numbers_are)
      (subst (λ (fs : List ℕ). All (λ k. k < length fs) (map (group_of test n) (row_numbers n))) (sym firsts_are) (numbers_below test same n))

  pub numbers_long : length numbers ≡ n
  numbers_long = ap length numbers_are ∙ length-map-range_with_len (group_of test n) 0 n

  pub firsts_few : length firsts ≤ n
  firsts_few = omega (arith, ap length firsts_are, few_firsts test n)

  -- they are what a call makes of such firsts and numbers
  pub groups_made : {E : Type 0} (made : Result Groups E) (h : ℕ) → n ≡ h → IfOk made (λ g. g.firsts.items ≡ firsts) → IfOk made (λ g. g.numbers.items ≡ numbers)
      → IfOk made (AreGroups test h)
  groups_made (Ok g) h done f k = record {
    firsts = f ∙ firsts_are ∙ ap (first_rows test) done;
    numbers = k ∙ numbers_are ∙ (λ t. map (group_of test (done t)) (row_numbers (done t)));
  }
  groups_made (Err e) h done f k = tt

-- THE ROWS OF COLUMNS

fields_same : (i j : ℕ) (cs : List (Bor Col)) → same_at cs i j ≡ same_rows (map (λ (c : Bor Col). values c.now) cs) i j
fields_same i j [] = refl
fields_same i j (c ∷ cs) = ap (λ b. same (row_value (values c.now) i) (row_value (values c.now) j) && b) (fields_same i j cs)

pub rows_test : (cs : List (Bor Col)) → same_at cs ≡ same_rows (map (λ (c : Bor Col). values c.now) cs)
rows_test cs = λ t i j. fields_same i j cs t

-- rows that are called so are groups by the lists of the columns where they are by the fields
pub groups_named : {E : Type 0} (cs : List (Bor Col)) (name : ℕ → ℕ) (made : Result Groups E) (n : ℕ) → IfOk made (AreGroups (named_rows name (same_at cs)) n)
    → IfOk made (AreGroups (named_rows name (same_rows (map (λ (c : Bor Col). values c.now) cs))) n)
groups_named cs name made n groups = subst (λ (test : ℕ → ℕ → Bool). IfOk made (AreGroups (named_rows name test) n)) (rows_test cs) groups

pub same_named : (cs : List (Bor Col)) (name : ℕ → ℕ) → IsEquivalence (named_rows name (same_at cs))
same_named cs name = pulled (λ i. fields_at cs (name i)) fields_equiv

pub named_few : (names : RowNames) (n : ℕ) → AreNamed names n → n ≤ 4294967294
named_few (From first) n h = omega (arith, h)
named_few (Listed rows) n h = h.1
