-- Rows that are sorted by codes alone, where codes tell them apart, are sorted by codes and values.
use Rattle.std.proofs.Common.{◌≡◌, ◌∙◌, ◌+◌, ◌-◌, ◌==◌, ◌&&◌, ◌||◌, ℕ, Bool, true, false, cond, not, List, [], ◌∷◌, filter, get_or, length, refl, sym, ap, subst, arith}
use Rattle.std.specs.Borrow.{Bor}
use Rattle.std.specs.Cmp.Lexicographic.{slice_cmp}
use Rattle.std.specs.List.Sorted.{ties}
use Rattle.std.specs.Ordering.{is_lt, nat_cmp, ordering_reverse, ordering_then}
use Rattle.std.specs.declared.cmp.Ordering.{Ordering}
use Rattle.std.specs.declared.cmp.Ordering.TheVariants.{Less, Equal, Greater}
use Rattle.std.specs.FinMap.{nat_cmp-IsAntisymmetric}
use Rattle.std.proofs.lemmas.Bool.{and_from, and_parts, both_ways, eq-eqb}
use Rattle.std.proofs.lemmas.Cmp.{lists_total, nat_cmp_total, tied_itself}
use Rattle.std.proofs.lemmas.List.{get_or_default}
use Rattle.std.proofs.lemmas.List.Sorted.{IsPermutation-trans}
use Rattle.tb_chunk.specs.Promise.Col.{Col}
use Rattle.tb_rows.specs.Coded.{code_cmp, coded_cmp, no_row, AreSorted, AreToldByCodes}
use Rattle.tb_rows.specs.Fields.{fields_at, same_at}
use Rattle.tb_rows.specs.Order.{value_cmp}
use Rattle.tb_rows.specs.Proved.KeyTests.{fields-Decides}
use Rattle.tb_rows.specs.declared.coded.CodedRow.{CodedRow}
use Rattle.tb_rows.proofs.InOrder.{keeps}
use Rattle.tb_rows.proofs.Orders.{value_total}

-- one test where the code decides, and both else
pub by_code : (t c s : Bool) → (t ≡ true → c ≡ true → s ≡ true) → (c && (t || s)) ≡ (c && s)
by_code true true s h = sym (h refl refl)
by_code false true s h = refl
by_code t false s h = refl

-- what passes a test that is the narrower one
within : {X : Type 0} (p q : X → Bool) → ((x : X) → p x ≡ true → q x ≡ true) → (xs : List X) → filter p (filter q xs) ≡ filter p xs
within p q wider [] = refl
within p q wider (x ∷ xs) = by (p x) refl (q x) refl (within p q wider xs)
  where
    by : (b : Bool) → p x ≡ b → (c : Bool) → q x ≡ c → filter p (filter q xs) ≡ filter p xs → filter p (cond c (x ∷ filter q xs) (filter q xs)) ≡ cond b (x ∷ filter p xs) (filter p xs)
    by true e true f h = keeps p x (filter q xs) true e ∙ ap (λ ys. x ∷ ys) h
    by false e true f h = keeps p x (filter q xs) false e ∙ h
    by true e false f h = absurd (both_ways (q x) f (wider x e))
    by false e false f h = h

module _ (cs : List (Bor Col)) where
  abbrev by_codes : CodedRow → CodedRow → Bool
  by_codes x y = is_lt (code_cmp x y)

  abbrev by_values : CodedRow → CodedRow → Bool
  by_values x y = is_lt (coded_cmp cs x y)

  -- rows that tie by values tie by codes
  wider : (z x : CodedRow) → ties by_values z x ≡ true → ties by_codes z x ≡ true
  wider z x h = by (nat_cmp z.code x.code) refl
    where
      parts : (not (by_values z x) ≡ true) × (not (by_values x z) ≡ true)
      parts = and_parts (not (by_values z x)) (not (by_values x z)) h

      by : (o : Ordering) → nat_cmp z.code x.code ≡ o → ties by_codes z x ≡ true
      by Equal e =
          let back : nat_cmp x.code z.code ≡ Equal = nat_cmp_total.antisymm x.code z.code ∙ ap ordering_reverse e in
          and_from (not (by_codes z x)) (not (by_codes x z)) (ap (λ o. not (is_lt o)) e) (ap (λ o. not (is_lt o)) back)
      by Less e =
          absurd (both_ways (not (by_values z x)) (ap (λ o. not (is_lt (ordering_then o (slice_cmp value_cmp (fields_at cs z.row) (fields_at cs x.row))))) e) parts.0)
      by Greater e =
          let back : nat_cmp x.code z.code ≡ Less = nat_cmp_total.antisymm x.code z.code ∙ ap ordering_reverse e in
          absurd (both_ways (not (by_values x z)) (ap (λ o. not (is_lt (ordering_then o (slice_cmp value_cmp (fields_at cs x.row) (fields_at cs z.row))))) back) parts.1)

  kept : (old new : List CodedRow) → AreSorted code_cmp old new → (z : CodedRow) → filter (ties by_values z) new ≡ filter (ties by_values z) old
  kept old new s z =
      sym (within (ties by_values z) (ties by_codes z) (wider z) new) ∙ ap (filter (ties by_values z)) (s.stable z) ∙ within (ties by_values z) (ties by_codes z) (wider z) old

  -- side by side with one code and the same values
  in_order : (x y : CodedRow) → is_lt (nat_cmp y.code x.code) ≡ false → ((x.code == y.code) ≡ true → same_at cs x.row y.row ≡ true) → by_values y x ≡ false
  in_order x y up told = by (nat_cmp y.code x.code) refl
    where
      rest : Ordering
      rest = slice_cmp value_cmp (fields_at cs y.row) (fields_at cs x.row)

      by : (o : Ordering) → nat_cmp y.code x.code ≡ o → is_lt (ordering_then (nat_cmp y.code x.code) (slice_cmp value_cmp (fields_at cs y.row) (fields_at cs x.row))) ≡ false
      by Less e = absurd (both_ways (is_lt (nat_cmp y.code x.code)) up (ap is_lt e))
      by Greater e = ap (λ o. is_lt (ordering_then o (slice_cmp value_cmp (fields_at cs y.row) (fields_at cs x.row)))) e
      by Equal e =
          let codes : x.code ≡ y.code = sym (nat_cmp-IsAntisymmetric y.code x.code e) in
          let fields : fields_at cs x.row ≡ fields_at cs y.row = (fields-Decides (fields_at cs x.row) (fields_at cs y.row)).0 (told (eq-eqb x.code y.code codes)) in
          ap (λ o. is_lt (ordering_then o (slice_cmp value_cmp (fields_at cs y.row) (fields_at cs x.row)))) e
          ∙ ap is_lt (ap (slice_cmp value_cmp (fields_at cs y.row)) fields ∙ tied_itself (lists_total value_total) (fields_at cs y.row))

  pub sorted_by_codes : (old new : List CodedRow) → AreSorted code_cmp old new → AreToldByCodes cs new (length new) → AreSorted (coded_cmp cs) old new
  sorted_by_codes old new s told = record {
    permutation = s.permutation;
    sorted = λ k d low high.
        let one : get_or new k d ≡ get_or new k no_row = get_or_default new k d no_row (omega (arith, high)) in
        let two : get_or new (k + 1) d ≡ get_or new (k + 1) no_row = get_or_default new (k + 1) d no_row high in
        let before : k ≡ k + 1 - 1 = omega arith in
        let say : ((get_or new k no_row).code == (get_or new (k + 1) no_row).code) ≡ true → same_at cs (get_or new k no_row).row (get_or new (k + 1) no_row).row ≡ true
        = subst (λ (i : ℕ). ((get_or new i no_row).code == (get_or new (k + 1) no_row).code) ≡ true → same_at cs (get_or new i no_row).row (get_or new (k + 1) no_row).row ≡ true)
        (sym before) (told (k + 1) (omega arith) high) in
        (λ t. by_values (two t) (one t)) ∙ in_order (get_or new k no_row) (get_or new (k + 1) no_row) (s.sorted k no_row low high) say;
    stable = kept old new s;
  }

  pub sorted_again : (old mid new : List CodedRow) → AreSorted code_cmp old mid → AreSorted (coded_cmp cs) mid new → AreSorted (coded_cmp cs) old new
  sorted_again old mid new s more = record {
    permutation = IsPermutation-trans old mid new s.permutation more.permutation;
    sorted = more.sorted;
    stable = λ z. more.stable z ∙ kept old mid s z;
  }
