-- Common types: their symmetry, and that cast values are of them.
use Rattle.std.proofs.Common.{arith, ◌≡◌, ◌∙◌, ◌<◌, ◌^◌, ◌⊎◌, inl, inr, Bool, true, false, ℕ, suc, ℤ, pos, negsuc, [], ◌∷◌, Option, Some, None, refl, ap, sym, subst}
use Rattle.std.specs.Fmt.{decimal, signed_decimal}
use Rattle.std.proofs.lemmas.Bool.{false≢true}
use Rattle.std.proofs.lemmas.Fmt.{IsAscii-decimal_wide, length-decimal-le_wide}
use Rattle.std.proofs.lemmas.Int.{ints}
use Rattle.std.proofs.lemmas.Str.Ascii.{IsAscii-cons, IsAscii-nil}
use Rattle.std.proofs.lemmas.Str.{IsUtf8-from_ascii}
use Rattle.tb_value.specs.Promise.Datum as value
use Rattle.tb_value.specs.Promise.Datum.{Datum}
use Rattle.tb_value.specs.Promise.Kind.{Kind, null, boolean, int8, int16, int32, int64, int128, uint8, uint16, uint32, uint64, string, binary, date, time, datetime, duration, list, struct}
use Rattle.tb_value.specs.Promise.SameKind.{same_kind}
use Rattle.tb_value.specs.Promise.Typed.{HasType, IsListOf, IsStructOf}
use Rattle.tb_value.specs.Proved.TypeTests.{same_kind-Decides}
use Rattle.tb_label.specs.Promise.Label.{truth_text}
use Rattle.tb_supertype.specs.Promise.Cast.{cast, cast_to, truth_number}
use Rattle.tb_supertype.specs.Laws.{CastTyped, CastsOn, Symmetric}
use Rattle.tb_supertype.specs.Lines.{same_answer}
use Rattle.tb_supertype.specs.Promise.Supertype.{class_of, common_by_class, supertype}
use Rattle.tb_supertype.specs.declared.class.Class.{Class}
use Rattle.tb_supertype.specs.declared.class.Class.TheVariants.{Nothing, Truth, Signed, Unsigned, Text, Other}
use Rattle.tb_supertype.proofs.Wholes.{is_whole, whole_common, whole_turned, has_truths, is_bounded}

-- TYPES BY THEIR CLASSES

abbrev kind_for : Class → Kind → Kind
kind_for Nothing t = null
kind_for Truth t = boolean
kind_for Text t = string
kind_for _ t = t

by_class : (t : Kind) → t ≡ kind_for (class_of t) t
by_class null = refl
by_class boolean = refl
by_class int8 = refl
by_class int16 = refl
by_class int32 = refl
by_class int64 = refl
by_class int128 = refl
by_class uint8 = refl
by_class uint16 = refl
by_class uint32 = refl
by_class uint64 = refl
by_class string = refl
by_class binary = refl
by_class date = refl
by_class time = refl
by_class (datetime u z) = refl
by_class (duration u) = refl
by_class (list t) = refl
by_class (struct ps) = refl

-- which values a type of the class can have
abbrev fits : Datum → Class → Bool
fits value.null c = true
fits v Other = true
fits (value.boolean b) Truth = true
fits (value.int z) (Signed n) = true
fits (value.int z) (Unsigned n) = true
fits (value.string s) Text = true
fits _ _ = false

int_fits : (t : Kind) (z : ℤ) → HasType t (value.int z) → fits (value.int z) (class_of t) ≡ true
int_fits null z h = absurd h
int_fits boolean z h = absurd h
int_fits string z h = absurd h
int_fits int8 z h = refl
int_fits int16 z h = refl
int_fits int32 z h = refl
int_fits int64 z h = refl
int_fits int128 z h = refl
int_fits uint8 z h = refl
int_fits uint16 z h = refl
int_fits uint32 z h = refl
int_fits uint64 z h = refl
int_fits binary z h = refl
int_fits date z h = refl
int_fits time z h = refl
int_fits (datetime u y) z h = refl
int_fits (duration u) z h = refl
int_fits (list t) z h = refl
int_fits (struct ps) z h = refl

list_class : (P : Kind → Type 0) (t : Kind) → IsListOf t P → class_of t ≡ Other
list_class P (list t) h = refl
list_class P _ h = absurd h

struct_class : (P : _) (t : Kind) → IsStructOf t P → class_of t ≡ Other
struct_class P (struct ps) h = refl
struct_class P _ h = absurd h

value_fits : (t : Kind) (v : Datum) → HasType t v → fits v (class_of t) ≡ true
value_fits t value.null h = refl
value_fits t (value.boolean b) h = ap (λ k. fits (value.boolean b) (class_of k)) h
value_fits t (value.int z) h = int_fits t z h
value_fits t (value.string s) h = ap (λ k. fits (value.string s) (class_of k)) h.0
value_fits t (value.binary s) h = ap (λ k. fits (value.binary s) (class_of k)) h.0
value_fits t (value.list vs) h = ap (fits (value.list vs)) (list_class _ t h)
value_fits t (value.struct vs) h = ap (fits (value.struct vs)) (struct_class _ t h)

-- CASTS

cast-null : (c : Class) → cast_to c value.null ≡ value.null
cast-null Nothing = refl
cast-null Truth = refl
cast-null (Signed n) = refl
cast-null (Unsigned n) = refl
cast-null Text = refl
cast-null Other = refl

null_cast : (s : Kind) → HasType s (cast s value.null)
null_cast s = rw (cast-null (class_of s)) tt

-- a value of the type is cast to itself
cast-own : (v : Datum) (c : Class) → fits v c ≡ true → cast_to c v ≡ v
cast-own value.null c h = cast-null c
cast-own (value.boolean b) Nothing h = refl
cast-own (value.boolean b) Truth h = refl
cast-own (value.boolean b) (Signed n) h = absurd (false≢true h)
cast-own (value.boolean b) (Unsigned n) h = absurd (false≢true h)
cast-own (value.boolean b) Text h = absurd (false≢true h)
cast-own (value.boolean b) Other h = refl
cast-own (value.int z) Nothing h = refl
cast-own (value.int z) Truth h = refl
cast-own (value.int z) (Signed n) h = refl
cast-own (value.int z) (Unsigned n) h = refl
cast-own (value.int z) Text h = absurd (false≢true h)
cast-own (value.int z) Other h = refl
cast-own (value.string s) Nothing h = refl
cast-own (value.string s) Truth h = refl
cast-own (value.string s) (Signed n) h = refl
cast-own (value.string s) (Unsigned n) h = refl
cast-own (value.string s) Text h = refl
cast-own (value.string s) Other h = refl
cast-own (value.binary s) Nothing h = refl
cast-own (value.binary s) Truth h = refl
cast-own (value.binary s) (Signed n) h = refl
cast-own (value.binary s) (Unsigned n) h = refl
cast-own (value.binary s) Text h = refl
cast-own (value.binary s) Other h = refl
cast-own (value.list vs) Nothing h = refl
cast-own (value.list vs) Truth h = refl
cast-own (value.list vs) (Signed n) h = refl
cast-own (value.list vs) (Unsigned n) h = refl
cast-own (value.list vs) Text h = refl
cast-own (value.list vs) Other h = refl
cast-own (value.struct vs) Nothing h = refl
cast-own (value.struct vs) Truth h = refl
cast-own (value.struct vs) (Signed n) h = refl
cast-own (value.struct vs) (Unsigned n) h = refl
cast-own (value.struct vs) Text h = refl
cast-own (value.struct vs) Other h = refl

pub cast-is : (t : Kind) (v : Datum) → HasType t v → cast t v ≡ v
cast-is t v h = cast-own v (class_of t) (value_fits t v h)

pub own_typed : (t : Kind) (v : Datum) → HasType t v → HasType t (cast t v)
own_typed t v h = rw (cast-is t v h) h

-- a truth value or a number cast to a type of whole numbers
truth_typed : (s : Kind) (b : Bool) → is_whole (class_of s) ≡ true → HasType s (value.int (truth_number b))
truth_typed s false w = (has_truths s w).0
truth_typed s true w = (has_truths s w).1

cast-truth : (c : Class) (b : Bool) → is_whole c ≡ true → cast_to c (value.boolean b) ≡ value.int (truth_number b)
cast-truth (Signed n) b w = refl
cast-truth (Unsigned n) b w = refl
cast-truth Nothing b w = absurd (false≢true w)
cast-truth Truth b w = absurd (false≢true w)
cast-truth Text b w = absurd (false≢true w)
cast-truth Other b w = absurd (false≢true w)

cast-number : (c : Class) (z : ℤ) → is_whole c ≡ true → cast_to c (value.int z) ≡ value.int z
cast-number (Signed n) z w = refl
cast-number (Unsigned n) z w = refl
cast-number Nothing z w = absurd (false≢true w)
cast-number Truth z w = absurd (false≢true w)
cast-number Text z w = absurd (false≢true w)
cast-number Other z w = absurd (false≢true w)

-- TEXTS

truth_is_text : (b : Bool) → HasType string (value.string (truth_text b))
truth_is_text true = (refl, omega arith, IsUtf8-from_ascii (truth_text true) (IsAscii-cons 116 (114 ∷ 117 ∷ 101 ∷ []) (omega arith) (IsAscii-cons 114 (117 ∷ 101 ∷ []) (omega arith) (IsAscii-cons 117 (101 ∷ []) (omega arith) (IsAscii-cons 101 [] (omega arith) IsAscii-nil)))))
truth_is_text false = (refl, omega arith, IsUtf8-from_ascii (truth_text false) (IsAscii-cons 102 (97 ∷ 108 ∷ 115 ∷ 101 ∷ []) (omega arith) (IsAscii-cons 97 (108 ∷ 115 ∷ 101 ∷ []) (omega arith) (IsAscii-cons 108 (115 ∷ 101 ∷ []) (omega arith) (IsAscii-cons 115 (101 ∷ []) (omega arith) (IsAscii-cons 101 [] (omega arith) IsAscii-nil))))))

number_is_text : (z : ℤ) → HasType int128 (value.int z) → HasType string (value.string (signed_decimal z))
number_is_text (pos n) h =
    let small : n < 10 ^ 40 = omega (arith, ints) in
    let short = length-decimal-le_wide 40 n (omega arith) small (omega arith) in
    (refl, omega arith, IsUtf8-from_ascii (decimal n) (IsAscii-decimal_wide n (omega arith)))
number_is_text (negsuc n) h =
    let small : suc n < 10 ^ 40 = omega (arith, ints) in
    let short = length-decimal-le_wide 40 (suc n) (omega arith) small (omega arith) in
    (refl, omega arith, IsUtf8-from_ascii (45 ∷ decimal (suc n)) (IsAscii-cons 45 (decimal (suc n)) (omega arith) (IsAscii-decimal_wide (suc n) (omega arith))))

-- THE COMMON TYPE

-- what a type of whole numbers can be cast from
abbrev is_scalar : Datum → Bool
is_scalar value.null = true
is_scalar (value.boolean b) = true
is_scalar (value.int z) = true
is_scalar _ = false

scalar : (v : Datum) (c : Class) → is_whole c ≡ true → fits (cast_to c v) c ≡ true → is_scalar v ≡ true
scalar value.null c w f = refl
scalar (value.boolean b) c w f = refl
scalar (value.int z) c w f = refl
scalar (value.string s) (Signed n) w f = f
scalar (value.string s) (Unsigned n) w f = f
scalar (value.binary s) (Signed n) w f = f
scalar (value.binary s) (Unsigned n) w f = f
scalar (value.list vs) (Signed n) w f = f
scalar (value.list vs) (Unsigned n) w f = f
scalar (value.struct vs) (Signed n) w f = f
scalar (value.struct vs) (Unsigned n) w f = f
scalar v Nothing w f = absurd (false≢true w)
scalar v Truth w f = absurd (false≢true w)
scalar v Text w f = absurd (false≢true w)
scalar v Other w f = absurd (false≢true w)

cast_scalar : (t : Kind) (v : Datum) → is_whole (class_of t) ≡ true → HasType t (cast t v) → is_scalar v ≡ true
cast_scalar t v w h = scalar v (class_of t) w (value_fits t (cast t v) h)

number_of : (t : Kind) (z : ℤ) → is_whole (class_of t) ≡ true → HasType t (cast t (value.int z)) → HasType t (value.int z)
number_of t z w h = rw (cast-number (class_of t) z w) at h

whole_to_whole : (t u s : Kind) → is_whole (class_of t) ≡ true → is_whole (class_of u) ≡ true → supertype t u ≡ Some s → (v : Datum) → is_scalar v ≡ true → HasType t (cast t v) → HasType s (cast s v)
whole_to_whole t u s w x e value.null k h = null_cast s
whole_to_whole t u s w x e (value.boolean b) k h =
    let held = whole_common t u s w x e in rw (cast-truth (class_of s) b held.0) (truth_typed s b held.0)
whole_to_whole t u s w x e (value.int z) k h =
    let held = whole_common t u s w x e in rw (cast-number (class_of s) z held.0) (held.1 z (number_of t z w h))
whole_to_whole t u s w x e _ k h = absurd (false≢true k)

whole_to_text : (t : Kind) → is_whole (class_of t) ≡ true → (v : Datum) → is_scalar v ≡ true → HasType t (cast t v) → HasType string (cast string v)
whole_to_text t w value.null k h = tt
whole_to_text t w (value.boolean b) k h = truth_is_text b
whole_to_text t w (value.int z) k h = number_is_text z (is_bounded t w z (number_of t z w h))
whole_to_text t w _ k h = absurd (false≢true k)

truth_to_whole : (u : Kind) → is_whole (class_of u) ≡ true → (v : Datum) → fits v Truth ≡ true → HasType u (cast u v)
truth_to_whole u w value.null k = null_cast u
truth_to_whole u w (value.boolean b) k = rw (cast-truth (class_of u) b w) (truth_typed u b w)
truth_to_whole u w _ k = absurd (false≢true k)

truth_to_text : (v : Datum) → fits v Truth ≡ true → HasType string (cast string v)
truth_to_text value.null k = tt
truth_to_text (value.boolean b) k = truth_is_text b
truth_to_text _ k = absurd (false≢true k)

null_to_any : (u : Kind) (v : Datum) → fits v Nothing ≡ true → HasType u (cast u v)
null_to_any u value.null k = null_cast u
null_to_any u _ k = absurd (false≢true k)

-- what a value that is of the type when cast to it fits, at the class of the type
fits_at : (t : Kind) (c : Class) (v : Datum) → class_of t ≡ c → HasType t (cast t v) → fits (cast_to c v) c ≡ true
fits_at t c v e h = subst (λ (k : Class). fits (cast_to k v) k ≡ true) e (value_fits t (cast t v) h)

text_kind : (u : Kind) → class_of u ≡ Text → u ≡ string
text_kind u e = by_class u ∙ ap (λ (c : Class). kind_for c u) e

to_text : (u : Kind) (v : Datum) → class_of u ≡ Text → HasType string (cast string v) → HasType u (cast u v)
to_text u v e h = subst (λ (k : Kind). HasType k (cast k v)) (sym (text_kind u e)) h

the_same : (t s : Kind) (v : Datum) → Some t ≡ Some s → HasType t (cast t v) → HasType s (cast s v)
the_same t s v e h = let same : t ≡ s = cc in subst (λ (k : Kind). HasType k (cast k v)) same h

signed : (t : Kind) (n : ℕ) → class_of t ≡ Signed n → is_whole (class_of t) ≡ true
signed t n e = rw e refl

unsigned : (t : Kind) (n : ℕ) → class_of t ≡ Unsigned n → is_whole (class_of t) ≡ true
unsigned t n e = rw e refl

wholes_on : (t u s : Kind) → is_whole (class_of t) ≡ true → is_whole (class_of u) ≡ true → supertype t u ≡ Some s → (v : Datum) → HasType t (cast t v) → HasType s (cast s v)
wholes_on t u s w x e v h = whole_to_whole t u s w x e v (cast_scalar t v w h) h

common_on : (a b : Class) (t u s : Kind) → class_of t ≡ a → class_of u ≡ b → common_by_class t u a b ≡ Some s → supertype t u ≡ Some s → (v : Datum) → HasType t (cast t v) → HasType s (cast s v)
common_on Nothing b t u s p q e f v h = the_same u s v e (null_to_any u v (fits_at t Nothing v p h))
common_on a Nothing t u s p q e f v h = the_same t s v e h
common_on (Signed m) (Signed n) t u s p q e f v h = wholes_on t u s (signed t m p) (signed u n q) f v h
common_on (Unsigned m) (Unsigned n) t u s p q e f v h = wholes_on t u s (unsigned t m p) (unsigned u n q) f v h
common_on (Signed m) (Unsigned n) t u s p q e f v h = wholes_on t u s (signed t m p) (unsigned u n q) f v h
common_on (Unsigned m) (Signed n) t u s p q e f v h = wholes_on t u s (unsigned t m p) (signed u n q) f v h
common_on Truth (Signed n) t u s p q e f v h = the_same u s v e (truth_to_whole u (signed u n q) v (fits_at t Truth v p h))
common_on Truth (Unsigned n) t u s p q e f v h = the_same u s v e (truth_to_whole u (unsigned u n q) v (fits_at t Truth v p h))
common_on Truth Text t u s p q e f v h = the_same u s v e (to_text u v q (truth_to_text v (fits_at t Truth v p h)))
common_on (Signed m) Truth t u s p q e f v h = the_same t s v e h
common_on (Unsigned m) Truth t u s p q e f v h = the_same t s v e h
common_on Text Truth t u s p q e f v h = the_same t s v e h
common_on Text (Signed n) t u s p q e f v h = the_same t s v e h
common_on Text (Unsigned n) t u s p q e f v h = the_same t s v e h
common_on (Signed m) Text t u s p q e f v h =
    let w = signed t m p in the_same u s v e (to_text u v q (whole_to_text t w v (cast_scalar t v w h) h))
common_on (Unsigned m) Text t u s p q e f v h =
    let w = unsigned t m p in the_same u s v e (to_text u v q (whole_to_text t w v (cast_scalar t v w h) h))
common_on _ _ t u s p q e f v h = absurd (cc)

-- of equal types one of them, else what their classes say
by_sameness : (t u : Kind) (b : Bool) → same_kind t u ≡ b → ((b ≡ true) × (t ≡ u) × (supertype t u ≡ Some t)) ⊎ ((b ≡ false) × (supertype t u ≡ common_by_class t u (class_of t) (class_of u)))
by_sameness t u true e = inl (refl, (same_kind-Decides t u).0 e, rw e refl)
by_sameness t u false e = inr (refl, rw e refl)

pub casts_on : CastsOn
casts_on t u s e v h =
    elim (by_sameness t u (same_kind t u) refl) [
      | inl k ↦ the_same t s v (sym k.2 ∙ e) h
      | inr k ↦ common_on (class_of t) (class_of u) t u s refl refl (sym k.1 ∙ e) e v h
    ]

-- SYMMETRY

some_kinds : (a b : Option Kind) → same_answer a b ≡ true → a ≡ b
some_kinds None None h = refl
some_kinds (Some t) (Some u) h = ap Some ((same_kind-Decides t u).0 h)
some_kinds None (Some u) h = absurd (false≢true h)
some_kinds (Some t) None h = absurd (false≢true h)

common_turned : (a b : Class) (t u : Kind) → class_of t ≡ a → class_of u ≡ b → supertype t u ≡ common_by_class t u a b → supertype u t ≡ common_by_class u t b a → supertype t u ≡ supertype u t
common_turned Nothing Nothing t u p q e f =
    let same : t ≡ u = by_class t ∙ ap (λ (c : Class). kind_for c t) p ∙ sym (by_class u ∙ ap (λ (c : Class). kind_for c u) q) in
    e ∙ ap Some (sym same) ∙ sym f
common_turned (Signed m) (Signed n) t u p q e f = some_kinds _ _ (whole_turned t u (signed t m p) (signed u n q))
common_turned (Unsigned m) (Unsigned n) t u p q e f = some_kinds _ _ (whole_turned t u (unsigned t m p) (unsigned u n q))
common_turned Nothing Truth t u p q e f = e ∙ sym f
common_turned Nothing (Signed n) t u p q e f = e ∙ sym f
common_turned Nothing (Unsigned n) t u p q e f = e ∙ sym f
common_turned Nothing Text t u p q e f = e ∙ sym f
common_turned Nothing Other t u p q e f = e ∙ sym f
common_turned Truth Nothing t u p q e f = e ∙ sym f
common_turned Truth Truth t u p q e f = e ∙ sym f
common_turned Truth (Signed n) t u p q e f = e ∙ sym f
common_turned Truth (Unsigned n) t u p q e f = e ∙ sym f
common_turned Truth Text t u p q e f = e ∙ sym f
common_turned Truth Other t u p q e f = e ∙ sym f
common_turned (Signed m) Nothing t u p q e f = e ∙ sym f
common_turned (Signed m) Truth t u p q e f = e ∙ sym f
common_turned (Signed m) (Unsigned n) t u p q e f = e ∙ sym f
common_turned (Signed m) Text t u p q e f = e ∙ sym f
common_turned (Signed m) Other t u p q e f = e ∙ sym f
common_turned (Unsigned m) Nothing t u p q e f = e ∙ sym f
common_turned (Unsigned m) Truth t u p q e f = e ∙ sym f
common_turned (Unsigned m) (Signed n) t u p q e f = e ∙ sym f
common_turned (Unsigned m) Text t u p q e f = e ∙ sym f
common_turned (Unsigned m) Other t u p q e f = e ∙ sym f
common_turned Text Nothing t u p q e f = e ∙ sym f
common_turned Text Truth t u p q e f = e ∙ sym f
common_turned Text (Signed n) t u p q e f = e ∙ sym f
common_turned Text (Unsigned n) t u p q e f = e ∙ sym f
common_turned Text Text t u p q e f = e ∙ sym f
common_turned Text Other t u p q e f = e ∙ sym f
common_turned Other Nothing t u p q e f = e ∙ sym f
common_turned Other Truth t u p q e f = e ∙ sym f
common_turned Other (Signed n) t u p q e f = e ∙ sym f
common_turned Other (Unsigned n) t u p q e f = e ∙ sym f
common_turned Other Text t u p q e f = e ∙ sym f
common_turned Other Other t u p q e f = e ∙ sym f

pub supertype_symmetric : Symmetric
supertype_symmetric t u =
    elim (by_sameness t u (same_kind t u) refl) [
      | inl k ↦ subst (λ (x : Kind). supertype t x ≡ supertype x t) k.1 refl
      | inr k ↦ elim (by_sameness u t (same_kind u t) refl) [
        | inl j ↦ subst (λ (x : Kind). supertype x u ≡ supertype u x) j.1 refl
        | inr j ↦ common_turned (class_of t) (class_of u) t u refl refl k.1 j.1
      ]
    ]

pub cast_typed : CastTyped
cast_typed t u s e v = (
  λ h. casts_on t u s e v (own_typed t v h),
  λ h. casts_on u t s (supertype_symmetric u t ∙ e) v (own_typed u v h),
)
