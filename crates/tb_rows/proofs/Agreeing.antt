-- Tests that agree on the first rows have the same leaders and groups, and the numbers of groups and leaders tell rows apart as the test does.
use Rattle.std.proofs.Common.{◌≡◌, ◌∙◌, ◌+◌, ◌<◌, ◌==◌, ℕ, Bool, true, cond, not, ◌||◌, List, [], ◌∷◌, filter, get_or, length, map, Result, Ok, Err, IfOk, eqb-true, refl, sym, ap, subst, arith}
use Rattle.std.specs.Cmp.{IsEquivalence}
use Rattle.std.specs.List.{All, list_any, position_or_len}
use Rattle.std.proofs.lemmas.Bool.{eq-eqb}
use Rattle.std.proofs.lemmas.Cmp.{nat_eq_equiv, on_equiv}
use Rattle.std.proofs.lemmas.List.Elements.{All-get_or, All-head, All-tail, All-weaker}
use Rattle.std.proofs.lemmas.List.FromFn.{get_or-map-range_with_len, length-map-range_with_len}
use Rattle.tb_value.proofs.RowNumbers.{rows_below}
use Rattle.tb_value.specs.Promise.Pairs.{row_numbers}
use Rattle.tb_rows.specs.Coded.{leader, led_alike, AreLeaders}
use Rattle.tb_rows.specs.Grouped.{AreGroups}
use Rattle.tb_rows.specs.Promise.Rows.{first_rows, group_of, is_first}
use Rattle.tb_rows.specs.declared.groups.Groups.{Groups}
use Rattle.tb_rows.proofs.FirstRows.{firsts_below, group_is, numbers_below}
use Rattle.tb_rows.proofs.Leaders.{both, leader_same, leaders_agree}

-- two tests agree on the first n rows
abbrev pub Agree : ℕ → (ℕ → ℕ → Bool) → (ℕ → ℕ → Bool) → Type 0
Agree n s t = (i j : ℕ) → i < n → j < n → s i j ≡ t i j

any_agree : (p q : ℕ → Bool) (xs : List ℕ) → All (λ x. p x ≡ q x) xs → list_any p xs ≡ list_any q xs
any_agree p q [] h = refl
any_agree p q (x ∷ xs) h =
    let here : p x ≡ q x = All-head (λ y. p y ≡ q y) x xs h in
    let rest = any_agree p q xs (All-tail (λ y. p y ≡ q y) x xs h) in
    λ t. here t || rest t

place_agree : (p q : ℕ → Bool) (xs : List ℕ) → All (λ x. p x ≡ q x) xs → position_or_len p xs ≡ position_or_len q xs
place_agree p q [] h = refl
place_agree p q (x ∷ xs) h =
    let here : p x ≡ q x = All-head (λ y. p y ≡ q y) x xs h in
    let rest = place_agree p q xs (All-tail (λ y. p y ≡ q y) x xs h) in
    λ t. cond (not (here t)) (1 + rest t) 0

kept_agree : (p q : ℕ → Bool) (xs : List ℕ) → All (λ x. p x ≡ q x) xs → filter p xs ≡ filter q xs
kept_agree p q [] h = refl
kept_agree p q (x ∷ xs) h =
    let here : p x ≡ q x = All-head (λ y. p y ≡ q y) x xs h in
    let rest = kept_agree p q xs (All-tail (λ y. p y ≡ q y) x xs h) in
    λ t. cond (here t) (x ∷ rest t) (rest t)

made_agree : (f g : ℕ → ℕ) (xs : List ℕ) → All (λ x. f x ≡ g x) xs → map f xs ≡ map g xs
made_agree f g [] h = refl
made_agree f g (x ∷ xs) h =
    let here : f x ≡ g x = All-head (λ y. f y ≡ g y) x xs h in
    let rest = made_agree f g xs (All-tail (λ y. f y ≡ g y) x xs h) in
    λ t. here t ∷ rest t

module _ (n : ℕ) (s t : ℕ → ℕ → Bool) (agree : Agree n s t) where
  pub leader_agrees : (j : ℕ) → j < n → leader s n j ≡ leader t n j
  leader_agrees j low = place_agree (λ i. s i j) (λ i. t i j) (row_numbers n) (All-weaker (λ i. i < n) (λ i. s i j ≡ t i j) (λ i under. agree i j under low) (row_numbers n) (rows_below n))

  first_agrees : (i : ℕ) → i < n → is_first s i ≡ is_first t i
  first_agrees i low =
      ap not (any_agree (λ j. s j i) (λ j. t j i) (row_numbers i) (All-weaker (λ j. j < i) (λ j. s j i ≡ t j i) (λ j under. agree j i (omega (arith, under, low)) low) (row_numbers i) (rows_below i)))

  firsts_agree : first_rows s n ≡ first_rows t n
  firsts_agree = kept_agree (is_first s) (is_first t) (row_numbers n) (All-weaker (λ i. i < n) (λ i. is_first s i ≡ is_first t i) first_agrees (row_numbers n) (rows_below n))

  group_agrees : (j : ℕ) → j < n → group_of s n j ≡ group_of t n j
  group_agrees j low =
      ap (position_or_len (λ i. s i j)) firsts_agree
      ∙ place_agree (λ i. s i j) (λ i. t i j) (first_rows t n) (All-weaker (λ i. i < n) (λ i. s i j ≡ t i j) (λ i under. agree i j under low) (first_rows t n) (firsts_below t n))

  pub groups_agree : (g : Groups) → AreGroups s n g → AreGroups t n g
  groups_agree g groups = record {
    firsts = groups.firsts ∙ firsts_agree;
    numbers = groups.numbers ∙ made_agree (group_of s n) (group_of t n) (row_numbers n) (All-weaker (λ i. i < n) (λ i. group_of s n i ≡ group_of t n i) group_agrees (row_numbers n) (rows_below n));
  }

  pub made_agrees : {E : Type 0} (made : Result Groups E) → IfOk made (AreGroups s n) → IfOk made (AreGroups t n)
  made_agrees (Ok g) groups = groups_agree g groups
  made_agrees (Err e) groups = tt

-- LEADERS

pub led_equiv : (leaders : List ℕ) → IsEquivalence (led_alike leaders)
led_equiv leaders = on_equiv (λ i. get_or leaders i 0) nat_eq_equiv

module _ (test : ℕ → ℕ → Bool) (same : IsEquivalence test) (n : ℕ) (leaders : List ℕ) (led : AreLeaders test n leaders) where
  pub led_agree : Agree n (led_alike leaders) test
  led_agree i j low under = both (led_alike leaders i j) (test i j) back there
    where
      l : ℕ
      l = leader test n i

      back : led_alike leaders i j ≡ true → test i j ≡ true
      back e =
          let is : leader test n i ≡ leader test n j = sym (led.each i low) ∙ eqb-true (get_or leaders i 0) (get_or leaders j 0) e ∙ led.each j under in
          sym (same.congr (leader test n i) i j (leader_same test same n i low)) ∙ ap (λ k. test k j) is ∙ leader_same test same n j under

      there : test i j ≡ true → led_alike leaders i j ≡ true
      there e = eq-eqb (get_or leaders i 0) (get_or leaders j 0) (led.each i low ∙ leaders_agree test same n i j e ∙ sym (led.each j under))

  pub own_leaders : (m : ℕ) → m ≡ n → AreLeaders (led_alike leaders) m leaders
  own_leaders m is = record {
    count = led.count ∙ sym is;
    each = λ j low.
        let under : j < n = omega (arith, low, is) in
        led.each j under ∙ sym (leader_agrees n (led_alike leaders) test led_agree j under) ∙ ap (λ k. leader (led_alike leaders) k j) (sym is);
  }

  -- groups by leaders are groups by the test
  pub led_groups_are : {E : Type 0} (made : Result Groups E) (m : ℕ) → m ≡ n → IfOk made (AreGroups (led_alike leaders) m) → IfOk made (AreGroups test n)
  led_groups_are made m is groups = made_agrees n (led_alike leaders) test led_agree made (subst (λ k. IfOk made (AreGroups (led_alike leaders) k)) is groups)

-- NUMBERS OF GROUPS

module _ (test : ℕ → ℕ → Bool) (same : IsEquivalence test) (n : ℕ) (g : Groups) (groups : AreGroups test n g) where
  number_at : (i : ℕ) → i < n → get_or g.numbers.items i 0 ≡ group_of test n i
  number_at i low = ap (λ (ns : List ℕ). get_or ns i 0) groups.numbers ∙ get_or-map-range_with_len (group_of test n) 0 n i i 0 low (omega arith)

  group_low : (i : ℕ) → i < n → group_of test n i < length (first_rows test n)
  group_low i low =
      let at = All-get_or (λ k. k < length (first_rows test n)) (map (group_of test n) (row_numbers n)) i 0 (omega (arith, low, length-map-range_with_len (group_of test n) 0 n)) (numbers_below test same n) in
      omega (arith, at, get_or-map-range_with_len (group_of test n) 0 n i i 0 low (omega arith))

  -- rows have one number where they are the same
  pub numbers_tell : (i j : ℕ) → i < n → j < n → (get_or g.numbers.items i 0 == get_or g.numbers.items j 0) ≡ test i j
  numbers_tell i j low under =
      let p : ℕ = group_of test n i in
      let f : ℕ = get_or (first_rows test n) p 0 in
      let own : test f i ≡ true = sym (group_is test same n p i (group_low i low)) ∙ eq-eqb p p refl in
      (λ t. number_at i low t == number_at j under t) ∙ nat_eq_equiv.symm p (group_of test n j) ∙ group_is test same n p j (group_low i low) ∙ same.congr f i j own

  pub numbers_long : length g.numbers.items ≡ n
  numbers_long = ap length groups.numbers ∙ length-map-range_with_len (group_of test n) 0 n
