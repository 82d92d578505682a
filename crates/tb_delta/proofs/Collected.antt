-- Entries under the numbers 0, 1, 2 and so on are those of the map that is made of them.
use Rattle.std.proofs.Common.{◌≡◌, ◌∙◌, ℕ, ◌+◌, true, List, [], ◌∷◌, length, Option, Some, None, refl, sym, ap, subst, arith, ⊎_elim}
use Rattle.std.specs.BTreeMap.{BTreeMap, IsFromIterResult, is_at}
use Rattle.std.specs.Cmp.{eq_by_cmp_equiv, nat_cmp_total, tied_itself}
use Rattle.std.specs.List.Sorted.{IsStrictlyIncreasing, IsStrictlySortedBy}
use Rattle.std.specs.Map.{keys_of, lookup}
use Rattle.std.specs.Option.{option_or, unwrap_or}
use Rattle.std.specs.Ordering.{eq_by_cmp, is_eq, nat_cmp, ordering_reverse}
use Rattle.std.specs.declared.cmp.Ordering.{Ordering}
use Rattle.std.specs.declared.cmp.Ordering.TheVariants.{Less, Equal, Greater}
use Rattle.std.proofs.lemmas.Bool.{cases_Bool}
use Rattle.std.proofs.lemmas.List.FromFn.{get_or-range_with_len, length-range_with_len}
use Rattle.std.proofs.lemmas.Map.{lookup-none}
use Rattle.std.proofs.lemmas.Map.Entries.{lookup_head, lookup_tail, none_below_head, none_past_head}
use Rattle.std.proofs.lemmas.Map.Keys.{IsDistinct-from_sorted, sorted_from_strictly_increasing, sorted_tail}
use Rattle.std.proofs.lemmas.Map.Lookups.{exact_unsigned}
use Rattle.std.proofs.lemmas.Map.Made.{update_all_distinct}
use Rattle.tb_value.specs.Promise.Pairs.{row_numbers}

-- ENTRIES IN ORDER, OF WHICH EACH NUMBER FINDS THE SAME

module _ {X : Type 0} where
  abbrev found : List (ℕ × X) → ℕ → Option X
  found es q = lookup (is_at (nat_cmp q)) es

  abbrev AreInOrder : List (ℕ × X) → Type 0
  AreInOrder es = IsStrictlySortedBy nat_cmp (keys_of es)

  at_head : (x : ℕ × X) (xs : List (ℕ × X)) → found (x ∷ xs) x.0 ≡ Some x.1
  at_head x xs = lookup_head (is_at (nat_cmp x.0)) x xs (ap is_eq (tied_itself nat_cmp_total x.0))

  past_head : (q : ℕ) (x : ℕ × X) (xs : List (ℕ × X)) → AreInOrder (x ∷ xs) → eq_by_cmp nat_cmp q x.0 ≡ true → found xs q ≡ None
  past_head q x xs s t = lookup-none (is_at (nat_cmp q)) xs (none_past_head (eq_by_cmp_equiv nat_cmp_total) q x xs (IsDistinct-from_sorted nat_cmp (keys_of (x ∷ xs)) s) t)

  module _ (x y : ℕ × X) (xs ys : List (ℕ × X)) (s : AreInOrder (x ∷ xs)) (t : AreInOrder (y ∷ ys)) (h : (q : ℕ) → found (x ∷ xs) q ≡ found (y ∷ ys) q) where
    by_heads : (r : Ordering) → nat_cmp x.0 y.0 ≡ r → nat_cmp x.0 y.0 ≡ Equal
    by_heads Less p = let none : Some x.1 ≡ None = sym (at_head x xs) ∙ h x.0 ∙ lookup-none (is_at (nat_cmp x.0)) (y ∷ ys) (none_below_head nat_cmp_total x.0 y ys t p) in absurd (cc)
    by_heads Equal p = p
    by_heads Greater p = let none : Some y.1 ≡ None = sym (at_head y ys) ∙ sym (h y.0) ∙ lookup-none (is_at (nat_cmp y.0)) (x ∷ xs) (none_below_head nat_cmp_total y.0 x xs s (nat_cmp_total.antisymm y.0 x.0 ∙ ap ordering_reverse p)) in absurd (cc)

    heads : x.0 ≡ y.0
    heads = exact_unsigned x.0 y.0 (by_heads (nat_cmp x.0 y.0) refl)

    values : x.1 ≡ y.1
    values = ap (λ u. unwrap_or u x.1) (sym (at_head x xs) ∙ h x.0 ∙ ap (found (y ∷ ys)) heads ∙ at_head y ys)

    tails : (q : ℕ) → found xs q ≡ found ys q
    tails q =
        let same : eq_by_cmp nat_cmp q y.0 ≡ eq_by_cmp nat_cmp q x.0 = ap (eq_by_cmp nat_cmp q) (sym heads) in
        ⊎_elim
        (λ b. past_head q x xs s b ∙ sym (past_head q y ys t (same ∙ b)))
        (λ b. sym (lookup_tail (is_at (nat_cmp q)) x xs b) ∙ h q ∙ lookup_tail (is_at (nat_cmp q)) y ys (same ∙ b))
        (cases_Bool (eq_by_cmp nat_cmp q x.0))

  same_entries : (es fs : List (ℕ × X)) → AreInOrder es → AreInOrder fs → ((q : ℕ) → found es q ≡ found fs q) → es ≡ fs
  same_entries [] [] s t h = refl
  same_entries [] (y ∷ ys) s t h = let none : Some y.1 ≡ None = sym (h y.0 ∙ at_head y ys) in absurd (cc)
  same_entries (x ∷ xs) [] s t h = let none : Some x.1 ≡ None = sym (at_head x xs) ∙ h x.0 in absurd (cc)
  same_entries (x ∷ xs) (y ∷ ys) s t h =
      let rest = same_entries xs ys (sorted_tail nat_cmp x.0 (keys_of xs) s) (sorted_tail nat_cmp y.0 (keys_of ys) t) (tails x y xs ys s t h) in
      λ i. (heads x y xs ys s t h i, values x y xs ys s t h i) ∷ rest i

-- THE MAP

rising : (n : ℕ) → IsStrictlyIncreasing (row_numbers n)
rising n = λ k low.
    let long : length (row_numbers n) ≡ n = length-range_with_len 0 n in
    let here = get_or-range_with_len 0 n k 0 (omega (arith, low, long)) in
    let next = get_or-range_with_len 0 n (k + 1) 0 (omega (arith, low, long)) in
    omega (arith, here, next)

or_none : {X : Type 0} (o : Option X) → option_or o None ≡ o
or_none None = refl
or_none (Some x) = refl

pub collected : {X : Type 0} (xs : List (ℕ × X)) (n : BTreeMap ℕ X) → IsFromIterResult nat_cmp xs n → keys_of xs ≡ row_numbers (length xs) → n.entries ≡ xs
collected xs n made keys =
    let sorted : IsStrictlySortedBy nat_cmp (keys_of xs) = subst (λ (l : List ℕ). IsStrictlySortedBy nat_cmp l) (sym keys) (sorted_from_strictly_increasing (row_numbers (length xs)) (rising (length xs))) in
    same_entries n.entries xs made.1 sorted
    (λ q. made.0 q ∙ update_all_distinct (eq_by_cmp_equiv nat_cmp_total) (eq_by_cmp nat_cmp) (λ x y. refl) (λ _. None) xs q (IsDistinct-from_sorted nat_cmp (keys_of xs) sorted) ∙ or_none (lookup (is_at (nat_cmp q)) xs))
