-- A part of values in order is in order.
use Rattle.std.proofs.Common.{arith, ◌≡◌, ◌∙◌, ℕ, ◌<◌, ◌+◌, ◌-◌, inl, inr, Bool, true, false, not, List, [], ◌∷◌, ◌++◌, length, take, drop, refl, ap, sym, get_or, length-take, length-drop}
use Rattle.std.proofs.lemmas.List.{get_or-take, get_or-drop, append-nil}
use Rattle.std.proofs.lemmas.List.Elements.{All-head, All-tail, All-take, All-drop, filter-append, filter_passes}
use Rattle.std.specs.List.{All}
use Rattle.std.specs.Prelude.{IsSorted as IsInOrder}
use Rattle.std.specs.Ordering.{flip_args}
use Rattle.std.specs.declared.cmp.Ordering.{Ordering}
use Rattle.tb_value.specs.Promise.Datum.{Datum, is_null, is_present}
use Rattle.tb_value.specs.Promise.Kind.{Kind}
use Rattle.tb_value.specs.declared.sorted.IsSorted.{IsSorted}
use Rattle.tb_value.specs.declared.sorted.IsSorted.TheVariants.{Ascending, Descending, Not}
use Rattle.tb_cell.specs.Promise.Flag.{datum_cmp, nulls}
use Rattle.tb_cell.specs.Flag.{present_values, HasNullsAtOneEnd, IsOrdered, FlagHolds}
use Rattle.tb_cell.proofs.Parts.{drop_two, take_two}

-- values that are all null, and values of which none is
abbrev pub AreNull : List Datum → Type 0
AreNull = All (λ v. is_null v ≡ true)

abbrev pub ArePresent : List Datum → Type 0
ArePresent = All (λ v. is_present v ≡ true)

pub not_true : (b : Bool) → not b ≡ true → b ≡ false
not_true true e = absurd (cc)
not_true false e = refl

pub present_of_nulls : (vs : List Datum) → AreNull vs → present_values vs ≡ []
present_of_nulls [] h = refl
present_of_nulls (v ∷ vs) h = rw (All-head (λ x. is_null x ≡ true) v vs h) (present_of_nulls vs (All-tail (λ x. is_null x ≡ true) v vs h))

pub nulls_of_nulls : (vs : List Datum) → AreNull vs → nulls vs ≡ vs
nulls_of_nulls [] h = refl
nulls_of_nulls (v ∷ vs) h = rw (All-head (λ x. is_null x ≡ true) v vs h) (ap (λ xs. v ∷ xs) (nulls_of_nulls vs (All-tail (λ x. is_null x ≡ true) v vs h)))

pub present_of_present : (vs : List Datum) → ArePresent vs → present_values vs ≡ vs
present_of_present [] h = refl
present_of_present (v ∷ vs) h =
    let e : is_null v ≡ false = not_true (is_null v) (All-head (λ x. is_present x ≡ true) v vs h) in
    rw e (ap (λ xs. v ∷ xs) (present_of_present vs (All-tail (λ x. is_present x ≡ true) v vs h)))

pub nulls_of_present : (vs : List Datum) → ArePresent vs → nulls vs ≡ []
nulls_of_present [] h = refl
nulls_of_present (v ∷ vs) h =
    let e : is_null v ≡ false = not_true (is_null v) (All-head (λ x. is_present x ≡ true) v vs h) in
    rw e (nulls_of_present vs (All-tail (λ x. is_present x ≡ true) v vs h))

module _ {X : Type 0} (order : X → X → Ordering) where
  pub in_order_drop : (n : ℕ) (xs : List X) → IsInOrder order xs → IsInOrder order (drop n xs)
  in_order_drop n xs h =
      λ k d low high.
      let within : (n + k) + 1 < length xs = omega (arith, length-drop n xs) in
      let next : get_or (drop n xs) (k + 1) d ≡ get_or xs ((n + k) + 1) d = get_or-drop n xs (k + 1) d ∙ ap (λ i. get_or xs i d) (omega arith) in
      rw (next, get_or-drop n xs k d) (h (n + k) d (omega arith) within)

  in_order_take : (n : ℕ) (xs : List X) → IsInOrder order xs → IsInOrder order (take n xs)
  in_order_take n xs h =
      λ k d low high.
      let within : k + 1 < length xs = omega (arith, length-take n xs) in
      let below : k + 1 < n = omega (arith, length-take n xs) in
      let here : k < n = omega arith in
      rw (get_or-take n xs (k + 1) d below, get_or-take n xs k d here) (h k d low within)

-- the part of values of which some come first and the others last
module _ (order : Datum → Datum → Ordering) (t : Kind) (vs : List Datum) (start len : ℕ) where
  nulls_first : IsInOrder order (present_values vs) → vs ≡ nulls vs ++ present_values vs → IsInOrder order (present_values (take len (drop start vs))) × HasNullsAtOneEnd (take len (drop start vs))
  nulls_first sorted e =
      let ns : List Datum = take len (drop start (nulls vs)) in
      let ps : List Datum = take (len - length (drop start (nulls vs))) (drop (start - length (nulls vs)) (present_values vs)) in
      let cut : take len (drop start vs) ≡ ns ++ ps = ap (λ xs. take len (drop start xs)) e ∙ (ap (λ xs. take len xs) (drop_two start (nulls vs) (present_values vs)) ∙ take_two len (drop start (nulls vs)) (drop (start - length (nulls vs)) (present_values vs))) in
      let none : AreNull ns = All-take (λ v. is_null v ≡ true) len (drop start (nulls vs)) (All-drop (λ v. is_null v ≡ true) start (nulls vs) (filter_passes is_null vs)) in
      let some : ArePresent ps = All-take (λ v. is_present v ≡ true) (len - length (drop start (nulls vs))) (drop (start - length (nulls vs)) (present_values vs)) (All-drop (λ v. is_present v ≡ true) (start - length (nulls vs)) (present_values vs) (filter_passes is_present vs)) in
      let p : present_values (ns ++ ps) ≡ ps = filter-append is_present ns ps ∙ (λ i. present_of_nulls ns none i ++ present_of_present ps some i) in
      let n : nulls (ns ++ ps) ≡ ns ++ [] = filter-append is_null ns ps ∙ (λ i. nulls_of_nulls ns none i ++ nulls_of_present ps some i) in
      rw cut (rw p (in_order_take order (len - length (drop start (nulls vs))) (drop (start - length (nulls vs)) (present_values vs)) (in_order_drop order (start - length (nulls vs)) (present_values vs) sorted)), inl (sym (λ i. (n ∙ append-nil ns) i ++ p i)))

  nulls_last : IsInOrder order (present_values vs) → vs ≡ present_values vs ++ nulls vs → IsInOrder order (present_values (take len (drop start vs))) × HasNullsAtOneEnd (take len (drop start vs))
  nulls_last sorted e =
      let ps : List Datum = take len (drop start (present_values vs)) in
      let ns : List Datum = take (len - length (drop start (present_values vs))) (drop (start - length (present_values vs)) (nulls vs)) in
      let cut : take len (drop start vs) ≡ ps ++ ns = ap (λ xs. take len (drop start xs)) e ∙ (ap (λ xs. take len xs) (drop_two start (present_values vs) (nulls vs)) ∙ take_two len (drop start (present_values vs)) (drop (start - length (present_values vs)) (nulls vs))) in
      let some : ArePresent ps = All-take (λ v. is_present v ≡ true) len (drop start (present_values vs)) (All-drop (λ v. is_present v ≡ true) start (present_values vs) (filter_passes is_present vs)) in
      let none : AreNull ns = All-take (λ v. is_null v ≡ true) (len - length (drop start (present_values vs))) (drop (start - length (present_values vs)) (nulls vs)) (All-drop (λ v. is_null v ≡ true) (start - length (present_values vs)) (nulls vs) (filter_passes is_null vs)) in
      let p : present_values (ps ++ ns) ≡ ps = filter-append is_present ps ns ∙ ((λ i. present_of_present ps some i ++ present_of_nulls ns none i) ∙ append-nil ps) in
      let n : nulls (ps ++ ns) ≡ ns = filter-append is_null ps ns ∙ (λ i. nulls_of_present ps some i ++ nulls_of_nulls ns none i) in
      rw cut (rw p (in_order_take order len (drop start (present_values vs)) (in_order_drop order start (present_values vs) sorted)), inr (sym (λ i. p i ++ n i)))

  ordered_part : IsOrdered order t vs → IsOrdered order t (take len (drop start vs))
  ordered_part h =
      let r : IsInOrder order (present_values (take len (drop start vs))) × HasNullsAtOneEnd (take len (drop start vs)) = elim h.2 [ inl e ↦ nulls_first h.1 e | inr e ↦ nulls_last h.1 e ] in
      (h.0, r.0, r.1)

pub flag_part : (flag : IsSorted) (t : Kind) (vs : List Datum) (start len : ℕ) → FlagHolds flag t vs → FlagHolds flag t (take len (drop start vs))
flag_part Ascending t vs start len h = ordered_part datum_cmp t vs start len h
flag_part Descending t vs start len h = ordered_part (flip_args datum_cmp) t vs start len h
flag_part Not t vs start len h = tt
