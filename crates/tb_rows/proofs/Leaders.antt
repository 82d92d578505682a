-- Rows that are sorted by codes and values: the first of those that tie is the first row of the same values.
use Rattle.std.proofs.Common.{◌≡◌, ◌≢◌, ◌∙◌, ◌+◌, ◌-◌, ◌<◌, ◌≤◌, ◌==◌, ◌&&◌, ◌⊎◌, inl, inr, ℕ, suc, Bool, true, false, cond, not, List, [], ◌∷◌, ◌++◌, filter, get_or, length, map, refl, sym, ap, subst, arith, ⊎_elim, slice_set as set}
use Rattle.std.specs.Prelude.{nat_lt}
use Rattle.std.specs.Borrow.{Bor}
use Rattle.std.specs.Cmp.{IsEquivalence, IsStrictWeakOrder, IsTotalOrder, first_so, second_so}
use Rattle.std.specs.Cmp.Lexicographic.{slice_cmp}
use Rattle.std.specs.FinMap.{slice_cmp-IsAntisymmetric}
use Rattle.std.specs.List.{All, position_or_len}
use Rattle.std.specs.List.Sorted.{ties}
use Rattle.std.specs.Ordering.{is_eq, is_lt, nat_cmp, ordering_reverse, ordering_then}
use Rattle.std.specs.declared.cmp.Ordering.{Ordering}
use Rattle.std.specs.declared.cmp.Ordering.TheVariants.{Less, Equal, Greater}
use Rattle.std.proofs.lemmas.Bool.{and_from, and_parts, both_ways, cases_lt, eq-eqb, false_from_ne_true, lt-ltb, ltb-true, not-true}
use Rattle.std.proofs.lemmas.Cmp.{lists_total, nat_cmp_total, on_total, then_total, tied_itself}
use Rattle.std.proofs.lemmas.List.{get_or-set_other, get_or-set_same, get_or_default, length-set, map-append}
use Rattle.std.proofs.lemmas.List.FromFn.{get_or-map-range_with_len, get_or-range_with_len, length-map-range_with_len, length-range_with_len}
use Rattle.std.proofs.lemmas.List.MinMax.{ranks_by}
use Rattle.std.proofs.lemmas.List.Sorted.{All-permutation, IsPermutation-sym, length_permutation, sorted_far}
use Rattle.std.proofs.lemmas.List.Sums.{fails_before_first, passes_at_first, position_or_len_is}
use Rattle.tb_value.proofs.RowNumbers.{row_numbers_more}
use Rattle.tb_value.specs.Promise.Datum.{Datum}
use Rattle.tb_value.specs.Promise.Pairs.{row_numbers}
use Rattle.tb_value.specs.Proved.ValueTests.{pulled}
use Rattle.tb_chunk.specs.Promise.Col.{Col}
use Rattle.tb_rows.specs.Coded.{coded_cmp, coded_row, coded_rows, goes_on, leader, no_row, same_coded, AreLeaders, AreSorted}
use Rattle.tb_rows.specs.Fields.{fields_at, row_code, same_at}
use Rattle.tb_rows.specs.InGroups.{named_rows}
use Rattle.tb_rows.specs.Order.{value_cmp}
use Rattle.tb_rows.specs.Proved.KeyTests.{fields-Decides, fields_equiv}
use Rattle.tb_rows.specs.declared.coded.CodedRow.{CodedRow}
use Rattle.tb_rows.proofs.InOrder.{own, tied}
use Rattle.tb_rows.proofs.Orders.{then_tie, value_tie, value_total}
use Rattle.tb_numbered.proofs.Places.{tells}

-- the first that is kept is the first that passes
head_kept : {X : Type 0} (p : X → Bool) (xs : List X) (d : X) → get_or (filter p xs) 0 d ≡ get_or xs (position_or_len p xs) d
head_kept p [] d = refl
head_kept p (x ∷ xs) d = by (p x) (head_kept p xs d)
  where
    by : (b : Bool) → get_or (filter p xs) 0 d ≡ get_or xs (position_or_len p xs) d
        → get_or (cond b (x ∷ filter p xs) (filter p xs)) 0 d ≡ get_or (x ∷ xs) (cond (not b) (1 + position_or_len p xs) 0) d
    by true h = refl
    by false h = let more : suc (position_or_len p xs) ≡ 1 + position_or_len p xs = omega arith in h ∙ ap (λ k. get_or (x ∷ xs) k d) more

pub place-map : {X Y : Type 0} (p : Y → Bool) (f : X → Y) (xs : List X) → position_or_len p (map f xs) ≡ position_or_len (λ x. p (f x)) xs
place-map p f [] = refl
place-map p f (x ∷ xs) = ap (λ n. cond (not (p (f x))) (1 + n) 0) (place-map p f xs)

pub both : (a b : Bool) → (a ≡ true → b ≡ true) → (b ≡ true → a ≡ true) → a ≡ b
both true true f g = refl
both true false f g = sym (f refl)
both false true f g = g refl
both false false f g = refl

equal : (o : Ordering) → is_eq o ≡ true → o ≡ Equal
equal Less e = absurd (cc)
equal Equal e = refl
equal Greater e = absurd (cc)

tie_is : (o : Ordering) → (not (is_lt o) && not (is_lt (ordering_reverse o))) ≡ is_eq o
tie_is Less = refl
tie_is Equal = refl
tie_is Greater = refl

-- the leaders of the first t of these rows, and the last of these leaders
pub record AreLed (test : ℕ → ℕ → Bool) (n : ℕ) (rows : List CodedRow) (t last : ℕ) (leaders : List ℕ) : Type 0 where
  pub count : length leaders ≡ n
  pub each : (k : ℕ) → k < t → get_or leaders (get_or rows k no_row).place 0 ≡ leader test n (get_or rows k no_row).place
  pub last_is : 1 ≤ t → last ≡ leader test n (get_or rows (t - 1) no_row).place

-- THE FIRST OF THE ROWS THAT ARE THE SAME

pub row_at : (n k d : ℕ) → k < n → get_or (row_numbers n) k d ≡ k
row_at n k d l = get_or-range_with_len 0 n k d l ∙ omega arith

module _ (test : ℕ → ℕ → Bool) (same : IsEquivalence test) (n : ℕ) where
  pub not_before : (j i : ℕ) → i < n → i < leader test n j → test i j ≡ false
  not_before j i l low = ap (λ k. test k j) (sym (row_at n i 0 l)) ∙ fails_before_first (λ i. test i j) (row_numbers n) i 0 low

  -- it is no later than the row
  pub leader_low : (j : ℕ) → j < n → leader test n j ≤ j
  leader_low j l = ⊎_elim (λ low. absurd (both_ways (test j j) (not_before j j l low) (same.refl j))) (λ high. high) (cases_lt j (leader test n j))

  pub leader_same : (j : ℕ) → j < n → test (leader test n j) j ≡ true
  leader_same j l =
      let low : leader test n j < n = omega (arith, leader_low j l) in
      ap (λ k. test k j) (sym (row_at n (leader test n j) 0 low))
      ∙ passes_at_first (λ i. test i j) (row_numbers n) 0 (omega (arith, low, length-range_with_len 0 n))

  -- rows that are the same have one leader
  pub leaders_agree : (k j : ℕ) → test k j ≡ true → leader test n k ≡ leader test n j
  leaders_agree k j e =
      let each : (i : ℕ) → test i k ≡ test i j = λ i. same.symm i k ∙ same.congr k j i e ∙ same.symm j i in
      λ t. position_or_len (λ i. each i t) (row_numbers n)

-- THE SORTED ROWS

-- one row more
pub coded_more : (cs : List (Bor Col)) (name : ℕ → ℕ) (n : ℕ) (old new : List CodedRow) (code row : ℕ) → row ≡ name n → code ≡ row_code (fields_at cs row) → old ≡ coded_rows cs name n
    → new ≡ old ++ record { code = code; row = row; place = n } ∷ [] → new ≡ coded_rows cs name (n + 1)
coded_more cs name n old new code row f e so put =
    put ∙ (λ t. so t ++ record { code = (e ∙ ap (λ i. row_code (fields_at cs i)) f) t; row = f t; place = n } ∷ [])
    ∙ sym (ap (map (coded_row cs name)) (row_numbers_more n) ∙ map-append (coded_row cs name) (row_numbers n) (n ∷ []))

abbrev fields_cmp : List Datum → List Datum → Ordering
fields_cmp fs gs = ordering_then (nat_cmp (row_code fs) (row_code gs)) (slice_cmp value_cmp fs gs)

fields_total : IsTotalOrder fields_cmp
fields_total = then_total (on_total row_code nat_cmp_total) (lists_total value_total)

module _ (cs : List (Bor Col)) where
  pub coded_total : IsTotalOrder (coded_cmp cs)
  coded_total = then_total (on_total (λ (r : CodedRow). r.code) nat_cmp_total) (on_total (λ (r : CodedRow). fields_at cs r.row) (lists_total value_total))

  abbrev lt : CodedRow → CodedRow → Bool
  lt x y = is_lt (coded_cmp cs x y)

  weak : IsStrictWeakOrder lt
  weak = ranks_by coded_total (λ (x : CodedRow). x)

  module _ (name : ℕ → ℕ) where
    abbrev test : ℕ → ℕ → Bool
    test = named_rows name (same_at cs)

    pub test_equiv : IsEquivalence test
    test_equiv = pulled (λ i. fields_at cs (name i)) fields_equiv

    abbrev item : ℕ → CodedRow
    item = coded_row cs name

    fields : (i j : ℕ) → test i j ≡ true → fields_at cs (name i) ≡ fields_at cs (name j)
    fields i j e = (fields-Decides (fields_at cs (name i)) (fields_at cs (name j))).0 e

    -- rows tie where they are the same
    item_ties : (i j : ℕ) → ties lt (item j) (item i) ≡ test i j
    item_ties i j =
        ap (λ o. not (is_lt (coded_cmp cs (item j) (item i))) && not (is_lt o)) (coded_total.antisymm (item i) (item j))
        ∙ tie_is (coded_cmp cs (item j) (item i)) ∙ both (is_eq (coded_cmp cs (item j) (item i))) (test i j) to from
      where
        to : is_eq (coded_cmp cs (item j) (item i)) ≡ true → test i j ≡ true
        to e =
            let parts = then_tie (nat_cmp (row_code (fields_at cs (name j))) (row_code (fields_at cs (name i)))) (slice_cmp value_cmp (fields_at cs (name j)) (fields_at cs (name i))) (equal _ e) in
            (fields-Decides (fields_at cs (name i)) (fields_at cs (name j))).1 (sym (slice_cmp-IsAntisymmetric value_tie (fields_at cs (name j)) (fields_at cs (name i)) parts.1))

        from : test i j ≡ true → is_eq (coded_cmp cs (item j) (item i)) ≡ true
        from e = ap is_eq (ap (λ fs. fields_cmp (fields_at cs (name j)) fs) (fields i j e) ∙ tied_itself fields_total (fields_at cs (name j)))

    -- and are told to be the same where they are
    item_same : (i j : ℕ) → same_coded cs (item i) (item j) ≡ test i j
    item_same i j =
        both (same_coded cs (item i) (item j)) (test i j) (second_so (row_code (fields_at cs (name i)) == row_code (fields_at cs (name j))) (test i j))
        (λ e. and_from (row_code (fields_at cs (name i)) == row_code (fields_at cs (name j))) (test i j) (eq-eqb _ _ (ap row_code (fields i j e))) e)

    module _ (n : ℕ) (rows : List CodedRow) (s : AreSorted (coded_cmp cs) (coded_rows cs name n) rows) where
      abbrev pub IsItem : CodedRow → Type 0
      IsItem r = (r.place < n) × (r ≡ item r.place)

      items_long : length (coded_rows cs name n) ≡ n
      items_long = length-map-range_with_len item 0 n

      item_at : (k : ℕ) (d : CodedRow) → k < n → get_or (coded_rows cs name n) k d ≡ item k
      item_at k d l = get_or-map-range_with_len item 0 n k k d l (omega arith)

      pub are_items : All IsItem rows
      are_items = All-permutation IsItem (coded_rows cs name n) rows s.permutation (λ k d l. let low : k < n = omega (arith, l, items_long) in subst IsItem (sym (item_at k d low)) (low, refl))

      pub rows_long : length rows ≡ n
      rows_long = length_permutation (coded_rows cs name n) rows s.permutation ∙ items_long

      abbrev at : ℕ → CodedRow
      at t = get_or rows t no_row

      tests : (a b : CodedRow) → IsItem a → IsItem b → ties lt b a ≡ test a.place b.place
      tests a b i j = (λ t. ties lt (j.1 t) (i.1 t)) ∙ item_ties a.place b.place

      -- the first of those that tie leads itself
      pub leads_itself : (t : ℕ) → t < length rows → (1 ≤ t → test (at (t - 1)).place (at t).place ≡ false) → leader test n (at t).place ≡ (at t).place
      leads_itself t l new = sym (ap (λ (r : CodedRow). r.place) (here ∙ item_at (leader test n (at t).place) no_row low))
        where
          p : CodedRow → Bool
          p = ties lt (at t)

          is : IsItem (at t)
          is = are_items t no_row l

          low : leader test n (at t).place < n
          low = omega (arith, leader_low test test_equiv n (at t).place is.0, is.0)

          none : (k : ℕ) → k < t → p (at k) ≡ false
          none k m = false_from_ne_true (p (at k)) (λ e.
              let parts = and_parts (not (lt (at t) (at k))) (not (lt (at k) (at t))) e in
              let up : lt (at (t - 1)) (at k) ≡ false = sorted_far lt weak rows s.sorted k (t - 1) no_row (omega (arith, m)) (omega (arith, m, l)) in
              let last : lt (at t) (at (t - 1)) ≡ false = sorted_far lt weak rows s.sorted (t - 1) t no_row (omega arith) l in
              let first : lt (at (t - 1)) (at t) ≡ false = weak.chain (at (t - 1)) (at k) (at t) up (not-true (lt (at k) (at t)) parts.1) in
              let before : IsItem (at (t - 1)) = are_items (t - 1) no_row (omega (arith, l)) in
              both_ways (test (at (t - 1)).place (at t).place) (new (omega (arith, m)))
              (sym (tests (at (t - 1)) (at t) before is) ∙ tied lt weak (at t) (at (t - 1)) last first))

          found : position_or_len p rows ≡ t
          found = position_or_len_is p rows t no_row (omega (arith, l)) none (λ m. own lt weak (at t))

          seen : (i : ℕ) → p (item i) ≡ test i (at t).place
          seen i = (λ u. ties lt (is.1 u) (item i)) ∙ item_ties i (at t).place

          leads : position_or_len p (coded_rows cs name n) ≡ leader test n (at t).place
          leads = place-map p item (row_numbers n) ∙ (λ u. position_or_len (λ i. seen i u) (row_numbers n))

          here : at t ≡ get_or (coded_rows cs name n) (leader test n (at t).place) no_row
          here =
              sym (ap at found) ∙ sym (head_kept p rows no_row) ∙ ap (λ (l : List CodedRow). get_or l 0 no_row) (s.stable (at t))
              ∙ head_kept p (coded_rows cs name n) no_row ∙ ap (λ k. get_or (coded_rows cs name n) k no_row) leads

      module _ (t : ℕ) (l : t < length rows) (last now : ℕ) (leaders : List ℕ) (is : now ≡ cond (goes_on cs rows t) last (at t).place) (led : AreLed test n rows t last leaders) where
        abbrev p : ℕ
        p = (at t).place

        here : IsItem (at t)
        here = are_items t no_row l

        before : 1 ≤ t → IsItem (at (t - 1))
        before m = are_items (t - 1) no_row (omega (arith, l))

        told : 1 ≤ t → same_coded cs (at (t - 1)) (at t) ≡ test (at (t - 1)).place p
        told m = (λ u. same_coded cs ((before m).1 u) (here.1 u)) ∙ item_same (at (t - 1)).place p

        leads_now : now ≡ leader test n p
        leads_now = is ∙ by (goes_on cs rows t) refl
          where
            by : (b : Bool) → goes_on cs rows t ≡ b → cond b last p ≡ leader test n p
            by true e =
                let some : 1 ≤ t = omega (arith, ltb-true 0 t (first_so (nat_lt 0 t) (same_coded cs (at (t - 1)) (at t)) e)) in
                led.last_is some ∙ leaders_agree test test_equiv n (at (t - 1)).place p (sym (told some) ∙ second_so (nat_lt 0 t) (same_coded cs (at (t - 1)) (at t)) e)
            by false e = sym (leads_itself t l (λ some. false_from_ne_true (test (at (t - 1)).place p) (λ h.
                both_ways (goes_on cs rows t) e (and_from (nat_lt 0 t) (same_coded cs (at (t - 1)) (at t)) (lt-ltb 0 t (omega (arith, some))) (told some ∙ h)))))

        pub led_more : AreLed test n rows (t + 1) now (set leaders p now)
        led_more = record {
          count = length-set leaders p now ∙ led.count;
          each = λ k m. by k m (tells p (at k).place);
          last_is = λ _. leads_now ∙ ap (λ k. leader test n (at k).place) same_t;
        }
          where
            same_t : t ≡ t + 1 - 1
            same_t = omega arith

            by : (k : ℕ) → k < t + 1 → (p ≡ (at k).place) ⊎ (p ≢ (at k).place) → get_or (set leaders p now) (at k).place 0 ≡ leader test n (at k).place
            by k m (inl e) =
                let q : p < length leaders = omega (arith, here.0, led.count) in
                ap (λ q. get_or (set leaders p now) q 0) (sym e) ∙ get_or-set_same leaders p now 0 q ∙ leads_now ∙ ap (leader test n) e
            by k m (inr e) = get_or-set_other leaders p (at k).place now 0 (λ h. e (sym h)) ∙ led.each k (earlier (tells k t))
              where
                earlier : (k ≡ t) ⊎ (k ≢ t) → k < t
                earlier (inl h) = absurd (e (ap (λ i. (at i).place) (sym h)))
                earlier (inr h) = omega (arith, m, h)

      -- all of them
      pub led_all : (last : ℕ) (leaders : List ℕ) → AreLed test n rows (length rows) last leaders → AreLeaders test n leaders
      led_all last leaders led = record { count = led.count; each = each }
        where
          IsLed : CodedRow → Type 0
          IsLed r = get_or leaders r.place 0 ≡ leader test n r.place

          all : All IsLed (coded_rows cs name n)
          all = All-permutation IsLed rows (coded_rows cs name n) (IsPermutation-sym (coded_rows cs name n) rows s.permutation)
              (λ k d l. subst IsLed (get_or_default rows k no_row d l) (led.each k l))

          each : (j : ℕ) → j < n → get_or leaders j 0 ≡ leader test n j
          each j l = subst IsLed (item_at j no_row l) (all j no_row (omega (arith, l, items_long)))
