-- Key values, by the test and by what it means.
use Rattle.std.proofs.Common.{◌≡◌, ◌<◌, ◌≤ℤ◌, ◌&&◌, ◌≢◌, ℕ, ℤ, Bool, true, false, List, [], ◌∷◌, length, get_or, nat_lt, Option, Some, None, IsSomeAnd, int_le, inl, inr, suc, ◌≤◌, refl, sym, ap, subst, arith}
use Rattle.std.specs.Prelude.{◌⊎◌, ◌↔◌, IsTrue}
use Rattle.std.specs.Bool.{Decides, one_answer}
use Rattle.std.specs.List.{list_all}
use Rattle.std.specs.Str.{is_utf8}
use Rattle.std.proofs.lemmas.Bool.{and_from, and_parts, lt-ltb, ltb-true}
use Rattle.std.proofs.lemmas.Int.{ints}
use Rattle.std.proofs.lemmas.List.{get_or_past}
use Rattle.std.proofs.lemmas.Str.{IsUtf8-from_is_utf8, is_utf8-from_IsUtf8}
use Rattle.tb_value.specs.Promise.Datum.{Datum, is_null, null, boolean, int, string, binary, list, struct}
use Rattle.tb_value.specs.Promise.Kind.{Kind}
use Rattle.tb_value.specs.Promise.Kind as kind
use Rattle.tb_value.specs.Promise.SameKind.{is_key, same_kind}
use Rattle.tb_value.specs.Promise.Typed.{AreEachOf, AreOf, HasType, IsBytes, IsListOf, IsStructOf, ends}
use Rattle.tb_value.specs.Proved.TypeTests.{same_kind-Decides}
use Rattle.tb_value.specs.declared.limits.TheConstants.{TOO_LONG}
use Rattle.tb_frame.proofs.Frames.{all_true}
use Rattle.tb_agg.specs.Promise.Outcome.{lies_within}
use Rattle.tb_filter.specs.Promise.Filtered.{is_key_value}

Means : Kind → Datum → Type 0
Means t v = (is_key t ≡ true) × (v ≢ null) × HasType t v

-- WHOLE NUMBERS

-- a type that has ends has keys
key_of_ends : (t : Kind) (e : ℤ × ℤ) → ends t ≡ Some e → is_key t ≡ true
key_of_ends kind.null e h = absurd (cc)
key_of_ends (kind.list t) e h = absurd (cc)
key_of_ends (kind.struct ps) e h = absurd (cc)
key_of_ends _ e h = refl

within : (o : Option (ℤ × ℤ)) (z : ℤ) → lies_within o z ≡ true → (e : ℤ × ℤ) × (o ≡ Some e) × ((e.0 ≤ℤ z) × (z ≤ℤ e.1))
within None z h = absurd (cc)
within (Some (a, b)) z h =
    let both = and_parts (int_le a z) (int_le z b) h in
    let low : int_le a z ≡ true = both.0 in
    let high : int_le z b ≡ true = both.1 in
    ((a, b), refl, (grind (arith, ints), grind (arith, ints)))

within_by : (o : Option (ℤ × ℤ)) (z : ℤ) → IsSomeAnd o (λ e. (e.0 ≤ℤ z) × (z ≤ℤ e.1)) → lies_within o z ≡ true
within_by None z h = absurd h
within_by (Some (a, b)) z h = let low : a ≤ℤ z = h.0 in let high : z ≤ℤ b = h.1 in grind (arith, ints)

typed_within : (t : Kind) (z : ℤ) → HasType t (int z) → lies_within (ends t) z ≡ true
typed_within t z h = within_by (ends t) z h

int_typed : (t : Kind) (z : ℤ) → lies_within (ends t) z ≡ true → Means t (int z)
unfolding Means
int_typed t z h =
    let e = within (ends t) z h in
    (key_of_ends t e.0 e.1, λ n. absurd (cc), subst (λ (o : Option (ℤ × ℤ)). IsSomeAnd o (λ p. (p.0 ≤ℤ z) × (z ≤ℤ p.1))) (sym e.1) e.2)

-- BYTES

bytes_below : (s : List ℕ) → list_all (λ b. nat_lt b 256) s ≡ true → IsBytes s
bytes_below s h i = elim (cases (nat_lt i (length s))) [
  | inl low ↦ ltb-true (get_or s i 0) 256 (all_true (λ b. nat_lt b 256) s h i 0 (ltb-true i (length s) low))
  | inr high ↦ let past : length s ≤ i = grind arith in subst (λ (n : ℕ). n < 256) (sym (get_or_past s i 0 past)) (omega arith)
]
  where
    cases : (b : Bool) → (b ≡ true) ⊎ (b ≡ false)
    cases true = inl refl
    cases false = inr refl

below_bytes : (s : List ℕ) → IsBytes s → list_all (λ b. nat_lt b 256) s ≡ true
below_bytes [] h = refl
below_bytes (b ∷ s) h = and_from (nat_lt b 256) (list_all (λ x. nat_lt x 256) s) (lt-ltb b 256 (h 0)) (below_bytes s (λ i. h (suc i)))

-- EACH KIND OF VALUE

boolean_key : (t : Kind) → t ≡ kind.boolean → is_key t ≡ true
boolean_key t e = ap is_key e

no_list : (t : Kind) (P : Kind → Type 0) → is_key t ≡ true → IsListOf t P → ⊥
no_list (kind.list t) P k h = absurd (cc)
no_list _ P k h = h

no_struct : (t : Kind) (P : kind.Parts → Type 0) → is_key t ≡ true → IsStructOf t P → ⊥
no_struct (kind.struct ps) P k h = absurd (cc)
no_struct _ P k h = h

pub key_values : (t : Kind) (v : Datum) → Decides (is_key_value t v) ((is_key t ≡ true) × (v ≢ null) × HasType t v)
unfolding Means
key_values t null = (λ h. absurd (cc), λ h. absurd (h.1 refl))
key_values t (boolean b) = (
  λ h. let same = (same_kind-Decides t kind.boolean).0 h in (ap is_key same, λ n. absurd (cc), same),
  λ h. (same_kind-Decides t kind.boolean).1 h.2,
)
key_values t (int z) = (int_typed t z, λ h. typed_within t z h.2)
key_values t (string s) = (
  λ h.
      let front = and_parts (same_kind t kind.string && nat_lt (length s) TOO_LONG) (is_utf8 s) h in
      let both = and_parts (same_kind t kind.string) (nat_lt (length s) TOO_LONG) front.0 in
      let same = (same_kind-Decides t kind.string).0 both.0 in
      (ap is_key same, λ n. absurd (cc), (same, ltb-true (length s) TOO_LONG both.1, IsUtf8-from_is_utf8 s front.1)),
  λ h.
      and_from (same_kind t kind.string && nat_lt (length s) TOO_LONG) (is_utf8 s)
      (and_from (same_kind t kind.string) (nat_lt (length s) TOO_LONG) ((same_kind-Decides t kind.string).1 h.2.0) (lt-ltb (length s) TOO_LONG h.2.1))
      (is_utf8-from_IsUtf8 s h.2.2),
)
key_values t (binary s) = (
  λ h.
      let front = and_parts (same_kind t kind.binary && nat_lt (length s) TOO_LONG) (list_all (λ b. nat_lt b 256) s) h in
      let both = and_parts (same_kind t kind.binary) (nat_lt (length s) TOO_LONG) front.0 in
      let same = (same_kind-Decides t kind.binary).0 both.0 in
      (ap is_key same, λ n. absurd (cc), (same, ltb-true (length s) TOO_LONG both.1, bytes_below s front.1)),
  λ h.
      and_from (same_kind t kind.binary && nat_lt (length s) TOO_LONG) (list_all (λ b. nat_lt b 256) s)
      (and_from (same_kind t kind.binary) (nat_lt (length s) TOO_LONG) ((same_kind-Decides t kind.binary).1 h.2.0) (lt-ltb (length s) TOO_LONG h.2.1))
      (below_bytes s h.2.2),
)
key_values t (list vs) = (λ h. absurd (cc), λ h. absurd (no_list t (λ u. AreOf u vs) h.0 h.2))
key_values t (struct vs) = (λ h. absurd (cc), λ h. absurd (no_struct t (λ ps. AreEachOf ps vs) h.0 h.2))

-- THE TEST, STEP BY STEP

none_of : (b : Bool) → (b ≡ true → ⊥) → false ≡ b
none_of true h = absurd (h refl)
none_of false h = refl

pub no_key : (t : Kind) (v : Datum) → is_key t ≡ false → false ≡ is_key_value t v
no_key t v h = none_of (is_key_value t v) (λ e. let k = ((key_values t v).0 e).0 in absurd (both (is_key t) k h))
  where
    both : (b : Bool) → b ≡ true → b ≡ false → ⊥
    both true e f = cc
    both false e f = cc

pub no_value : (t : Kind) (v : Datum) → is_null v ≡ true → false ≡ is_key_value t v
no_value t null h = refl
no_value t (boolean b) h = absurd (cc)
no_value t (int z) h = absurd (cc)
no_value t (string s) h = absurd (cc)
no_value t (binary s) h = absurd (cc)
no_value t (list vs) h = absurd (cc)
no_value t (struct vs) h = absurd (cc)

there : (v : Datum) → is_null v ≡ false → v ≢ null
there null h = absurd (cc)
there (boolean b) h = λ e. absurd (cc)
there (int z) h = λ e. absurd (cc)
there (string s) h = λ e. absurd (cc)
there (binary s) h = λ e. absurd (cc)
there (list vs) h = λ e. absurd (cc)
there (struct vs) h = λ e. absurd (cc)

pub key_by_type : (t : Kind) (v : Datum) (b : Bool) → is_key t ≡ true → is_null v ≡ false → (IsTrue b ↔ HasType t v) → b ≡ is_key_value t v
key_by_type t v b k n h =
    one_answer b (is_key_value t v) (λ e. (k, there v n, h.0 e), λ m. h.1 m.2) (key_values t v)
