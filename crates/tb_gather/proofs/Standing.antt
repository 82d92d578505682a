-- Values in order, seen pair by pair, and what is picked from them.
use Rattle.std.proofs.Common.{arith, ◌≡◌, ◌∙◌, ℕ, ◌<◌, ◌≤◌, ◌+◌, ◌-◌, suc, zero, inl, inr, ◌⊎◌, not, Bool, true, false, List, [], ◌∷◌, ◌++◌, length, get_or, refl, ap, sym, subst, length-append}
use Rattle.std.proofs.lemmas.Bool.{cases_lt}
use Rattle.std.proofs.Math.Seq.{get_or-append_right}
use Rattle.std.proofs.lemmas.List.{get_or_append_left}
use Rattle.std.proofs.lemmas.List.Elements.{filter_passes}
use Rattle.std.proofs.lemmas.List.Kept.{AllPairs-filter}
use Rattle.std.specs.List.{All, AllPairs}
use Rattle.std.specs.Prelude.{IsSorted as IsInOrder}
use Rattle.std.specs.Ordering.{flip_args}
use Rattle.std.specs.declared.cmp.Ordering.{Ordering}
use Rattle.tb_value.specs.Promise.Datum.{Datum, null, is_null, is_present}
use Rattle.tb_cell.specs.Promise.Flag.{nulls}
use Rattle.tb_chunk.specs.Flag.{present_values, HasNullsAtOneEnd}
use Rattle.tb_chunk.proofs.Flags.{AreNull, ArePresent, not_true, present_of_nulls, nulls_of_nulls, present_of_present, nulls_of_present}
use Rattle.tb_gather.proofs.Comparing.{UpTo, Orders}

-- no null behind a present value where nulls are first, and none before one where they are last
abbrev pub NullUpTo : Bool → Datum → Datum → Type 0
NullUpTo true a b = is_null b ≡ true → is_null a ≡ true
NullUpTo false a b = is_null a ≡ true → is_null b ≡ true

abbrev pub Stands : Bool → (Datum → Datum → Ordering) → Datum → Datum → Type 0
Stands first order a b = NullUpTo first a b × (is_present a ≡ true → is_present b ≡ true → UpTo order a b)

-- the other way round
pub turned : (first : Bool) (order : Datum → Datum → Ordering) (a b : Datum) → Stands first order a b → Stands (not first) (flip_args order) b a
turned true order a b h = (h.0, λ p q. h.1 q p)
turned false order a b h = (h.0, λ p q. h.1 q p)

module _ {X : Type 0} (R : X → X → Type 0) where
  pub pairs-head : (x : X) (xs : List X) → AllPairs R (x ∷ xs) → All (R x) xs
  pairs-head x xs h = λ k d low. h 0 (suc k) d (omega arith) (omega arith)

  pub pairs-tail : (x : X) (xs : List X) → AllPairs R (x ∷ xs) → AllPairs R xs
  pairs-tail x xs h = λ i j d low high. h (suc i) (suc j) d (omega arith) (omega arith)

not-null : (v : Datum) → is_null v ≡ false → is_present v ≡ true
not-null v e = ap not e

-- FROM PAIRS TO LISTS

present-after : (v : Datum) (vs : List Datum) → is_null v ≡ false → All (NullUpTo true v) vs → ArePresent vs
present-after v vs e h = λ k d low. let n : is_null (get_or vs k d) ≡ true → is_null v ≡ true = h k d low in by_null (get_or vs k d) v (is_null (get_or vs k d)) refl e n
  where
    by_null : (w v : Datum) (b : Bool) → is_null w ≡ b → is_null v ≡ false → (is_null w ≡ true → is_null v ≡ true) → is_present w ≡ true
    by_null w v false e f n = not-null w e
    by_null w v true e f n = let t : is_null v ≡ true = n e in absurd (cc)

null-after : (v : Datum) (vs : List Datum) → is_null v ≡ true → All (NullUpTo false v) vs → AreNull vs
null-after v vs e h = λ k d low. h k d low e

ends-first : (xs : List Datum) → AllPairs (NullUpTo true) xs → xs ≡ nulls xs ++ present_values xs
ends-first [] h = refl
ends-first (x ∷ xs) h = by_null (is_null x) refl (ends-first xs (pairs-tail (NullUpTo true) x xs h))
  where
    by_null : (b : Bool) → is_null x ≡ b → xs ≡ nulls xs ++ present_values xs → x ∷ xs ≡ nulls (x ∷ xs) ++ present_values (x ∷ xs)
    by_null true e rest = rw e (ap (λ ys. x ∷ ys) rest)
    by_null false e rest =
        let some : ArePresent xs = present-after x xs e (pairs-head (NullUpTo true) x xs h) in
        rw (e, nulls_of_present xs some, present_of_present xs some) refl

ends-last : (xs : List Datum) → AllPairs (NullUpTo false) xs → xs ≡ present_values xs ++ nulls xs
ends-last [] h = refl
ends-last (x ∷ xs) h = by_null (is_null x) refl (ends-last xs (pairs-tail (NullUpTo false) x xs h))
  where
    by_null : (b : Bool) → is_null x ≡ b → xs ≡ present_values xs ++ nulls xs → x ∷ xs ≡ present_values (x ∷ xs) ++ nulls (x ∷ xs)
    by_null true e rest =
        let none : AreNull xs = null-after x xs e (pairs-head (NullUpTo false) x xs h) in
        rw (e, nulls_of_nulls xs none, present_of_nulls xs none) refl
    by_null false e rest = rw e (ap (λ ys. x ∷ ys) rest)

pub ends-of-pairs : (first : Bool) (order : Datum → Datum → Ordering) (xs : List Datum) → AllPairs (Stands first order) xs → HasNullsAtOneEnd xs
ends-of-pairs true order xs h = inl (ends-first xs (λ i j d low high. (h i j d low high).0))
ends-of-pairs false order xs h = inr (ends-last xs (λ i j d low high. (h i j d low high).0))

pub in-order-of-pairs : (first : Bool) (order : Datum → Datum → Ordering) (xs : List Datum) → AllPairs (Stands first order) xs → IsInOrder order (present_values xs)
in-order-of-pairs first order xs h = λ k d low high.
    let pairs : AllPairs (Stands first order) (present_values xs) = AllPairs-filter (Stands first order) is_present xs h in
    let some : ArePresent (present_values xs) = filter_passes is_present xs in
    (pairs k (k + 1) d (omega arith) high).1 (some k d (omega arith)) (some (k + 1) d high)

-- FROM LISTS TO PAIRS

module _ (order : Datum → Datum → Ordering) (P : Datum → Type 0) (o : Orders order P) where
  far : (ps : List Datum) → All P ps → IsInOrder order ps → (i n : ℕ) → i + n < length ps → UpTo order (get_or ps i null) (get_or ps (i + n) null)
  far ps fit sorted i zero high =
      let e : i + zero ≡ i = omega arith in
      subst (λ (k : ℕ). UpTo order (get_or ps i null) (get_or ps k null)) (sym e) (o.itself (get_or ps i null))
  far ps fit sorted i (suc n) high =
      let e : i + suc n ≡ (i + n) + 1 = omega arith in
      let last : UpTo order (get_or ps (i + n) null) (get_or ps ((i + n) + 1) null) = sorted (i + n) null (omega arith) (omega arith) in
      subst (λ (k : ℕ). UpTo order (get_or ps i null) (get_or ps k null)) (sym e)
      (o.chains (get_or ps i null) (get_or ps (i + n) null) (get_or ps ((i + n) + 1) null) (fit i null (omega arith)) (fit (i + n) null (omega arith)) (fit ((i + n) + 1) null (omega arith))
      (far ps fit sorted i n (omega arith)) last)

  apart : (ps : List Datum) → All P ps → IsInOrder order ps → (i j : ℕ) → i ≤ j → j < length ps → UpTo order (get_or ps i null) (get_or ps j null)
  apart ps fit sorted i j low high =
      let e : i + (j - i) ≡ j = omega arith in
      subst (λ (k : ℕ). UpTo order (get_or ps i null) (get_or ps k null)) e (far ps fit sorted i (j - i) (omega arith))

  -- a null is not present_values
  clash : (v : Datum) → is_null v ≡ true → is_present v ≡ true → ⊥
  clash v n p = let f : is_null v ≡ false = not_true (is_null v) p in absurd (cc)

  module _ (ns ps : List Datum) (none : AreNull ns) (some : ArePresent ps) (fit : All P ps) (sorted : IsInOrder order ps) where
    -- nulls, and then values in order
    first-null : (i : ℕ) → i < length ns → is_null (get_or (ns ++ ps) i null) ≡ true
    first-null i h = ap is_null (get_or_append_left ns ps null i h) ∙ none i null h

    first-some : (i : ℕ) → length ns ≤ i → i < length (ns ++ ps) → is_present (get_or (ns ++ ps) i null) ≡ true
    first-some i h high = ap is_present (get_or-append_right ns ps i null h) ∙ some (i - length ns) null (omega (arith, length-append ns ps))

    pub nulls-first : (i j : ℕ) → i ≤ j → j < length (ns ++ ps) → Stands true order (get_or (ns ++ ps) i null) (get_or (ns ++ ps) j null)
    nulls-first i j low high = by_place (cases_lt i (length ns))
      where
        by_place : (i < length ns) ⊎ (length ns ≤ i) → Stands true order (get_or (ns ++ ps) i null) (get_or (ns ++ ps) j null)
        by_place (inl h) = (λ n. first-null i h, λ p q. absurd (clash (get_or (ns ++ ps) i null) (first-null i h) p))
        by_place (inr h) = (
          λ n. absurd (clash (get_or (ns ++ ps) j null) n (first-some j (omega arith) high)),
          λ p q. rw (get_or-append_right ns ps i null h, get_or-append_right ns ps j null (omega arith)) (apart ps fit sorted (i - length ns) (j - length ns) (omega arith) (omega (arith, length-append ns ps))),
        )

    -- values in order, and then nulls
    last-some : (i : ℕ) → i < length ps → is_present (get_or (ps ++ ns) i null) ≡ true
    last-some i h = ap is_present (get_or_append_left ps ns null i h) ∙ some i null h

    last-null : (i : ℕ) → length ps ≤ i → i < length (ps ++ ns) → is_null (get_or (ps ++ ns) i null) ≡ true
    last-null i h high = ap is_null (get_or-append_right ps ns i null h) ∙ none (i - length ps) null (omega (arith, length-append ps ns))

    pub nulls-last : (i j : ℕ) → i ≤ j → j < length (ps ++ ns) → Stands false order (get_or (ps ++ ns) i null) (get_or (ps ++ ns) j null)
    nulls-last i j low high = by_place (cases_lt j (length ps))
      where
        by_place : (j < length ps) ⊎ (length ps ≤ j) → Stands false order (get_or (ps ++ ns) i null) (get_or (ps ++ ns) j null)
        by_place (inr h) = (λ n. last-null j h high, λ p q. absurd (clash (get_or (ps ++ ns) j null) (last-null j h high) q))
        by_place (inl h) = (
          λ n. absurd (clash (get_or (ps ++ ns) i null) n (last-some i (omega arith))),
          λ p q. rw (get_or_append_left ps ns null i (omega arith), get_or_append_left ps ns null j h) (apart ps fit sorted i j low h),
        )
