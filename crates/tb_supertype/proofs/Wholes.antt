-- Types of whole numbers: what is checked of each, and which numbers go from one into another.
use Rattle.std.proofs.Common.{arith, ◌≡◌, ◌&&◌, Bool, true, false, ℤ, pos, ◌≤ℤ◌, [], ◌∷◌, Option, Some, None, refl}
use Rattle.std.specs.List.{list_all}
use Rattle.std.specs.Prelude.{IsSomeAnd}
use Rattle.std.specs.Int.Signed.{le_z}
use Rattle.std.proofs.lemmas.Bool.{and_parts, false≢true}
use Rattle.std.proofs.lemmas.Int.{ints}
use Rattle.tb_value.specs.Promise.Datum.{int}
use Rattle.tb_value.specs.Promise.Kind.{Kind, null, boolean, int8, int16, int32, int64, int128, uint8, uint16, uint32, uint64, string, binary, date, time, datetime, duration, list, struct}
use Rattle.tb_value.specs.Promise.Typed.{HasType, ends}
use Rattle.tb_supertype.specs.Lines.{whole_kinds, same_answer}
use Rattle.tb_supertype.specs.Promise.Supertype.{class_of, supertype}
use Rattle.tb_supertype.specs.declared.class.Class.{Class}
use Rattle.tb_supertype.specs.declared.class.Class.TheVariants.{Signed, Unsigned}

abbrev pub is_whole : Class → Bool
is_whole (Signed n) = true
is_whole (Unsigned n) = true
is_whole _ = false

from_int128 : (p : Kind → Bool) → list_all p whole_kinds ≡ true → list_all p (int128 ∷ uint8 ∷ uint16 ∷ uint32 ∷ uint64 ∷ []) ≡ true
from_int128 p h = (and_parts (p int64) _ (and_parts (p int32) _ (and_parts (p int16) _ (and_parts (p int8) _ h).1).1).1).1

from_uint8 : (p : Kind → Bool) → list_all p whole_kinds ≡ true → list_all p (uint8 ∷ uint16 ∷ uint32 ∷ uint64 ∷ []) ≡ true
from_uint8 p h = (and_parts (p int128) _ (from_int128 p h)).1

-- what each of the nine types passes, a type of whole numbers passes
whole_all : (p : Kind → Bool) → list_all p whole_kinds ≡ true → (t : Kind) → is_whole (class_of t) ≡ true → p t ≡ true
whole_all p h int8 w = (and_parts (p int8) _ h).0
whole_all p h int16 w = (and_parts (p int16) _ (and_parts (p int8) _ h).1).0
whole_all p h int32 w = (and_parts (p int32) _ (and_parts (p int16) _ (and_parts (p int8) _ h).1).1).0
whole_all p h int64 w = (and_parts (p int64) _ (and_parts (p int32) _ (and_parts (p int16) _ (and_parts (p int8) _ h).1).1).1).0
whole_all p h int128 w = (and_parts (p int128) _ (from_int128 p h)).0
whole_all p h uint8 w = (and_parts (p uint8) _ (from_uint8 p h)).0
whole_all p h uint16 w = (and_parts (p uint16) _ (and_parts (p uint8) _ (from_uint8 p h)).1).0
whole_all p h uint32 w = (and_parts (p uint32) _ (and_parts (p uint16) _ (and_parts (p uint8) _ (from_uint8 p h)).1).1).0
whole_all p h uint64 w = (and_parts (p uint64) _ (and_parts (p uint32) _ (and_parts (p uint16) _ (and_parts (p uint8) _ (from_uint8 p h)).1).1).1).0
whole_all p h null w = absurd (false≢true w)
whole_all p h boolean w = absurd (false≢true w)
whole_all p h string w = absurd (false≢true w)
whole_all p h binary w = absurd (false≢true w)
whole_all p h date w = absurd (false≢true w)
whole_all p h time w = absurd (false≢true w)
whole_all p h (datetime u z) w = absurd (false≢true w)
whole_all p h (duration u) w = absurd (false≢true w)
whole_all p h (list t) w = absurd (false≢true w)
whole_all p h (struct ps) w = absurd (false≢true w)

pub whole_pairs : (p : Kind → Kind → Bool) → list_all (λ t. list_all (p t) whole_kinds) whole_kinds ≡ true → (t u : Kind) → is_whole (class_of t) ≡ true → is_whole (class_of u) ≡ true → p t u ≡ true
whole_pairs p h t u w v = whole_all (p t) (whole_all (λ s. list_all (p s) whole_kinds) h t w) u v

-- RANGES

abbrev within : Option (ℤ × ℤ) → Option (ℤ × ℤ) → Bool
within (Some a) (Some b) = le_z b.0 a.0 && le_z a.1 b.1
within _ _ = false

abbrev has : Option (ℤ × ℤ) → ℤ → Bool
has (Some a) z = le_z a.0 z && le_z z a.1
has None z = false

under : (a b c : ℤ) → le_z a b ≡ true → b ≤ℤ c → a ≤ℤ c
under a b c h k = grind (arith, ints)

over : (a b c : ℤ) → a ≤ℤ b → le_z b c ≡ true → a ≤ℤ c
over a b c h k = grind (arith, ints)

within_goes : (a b : Option (ℤ × ℤ)) (z : ℤ) → within a b ≡ true → IsSomeAnd a (λ e. (e.0 ≤ℤ z) × (z ≤ℤ e.1)) → IsSomeAnd b (λ e. (e.0 ≤ℤ z) × (z ≤ℤ e.1))
within_goes None b z h k = absurd k
within_goes (Some a) None z h k = absurd (false≢true h)
within_goes (Some a) (Some b) z h k =
    let both = and_parts (le_z b.0 a.0) (le_z a.1 b.1) h in
    (under b.0 a.0 z both.0 k.0, over z a.1 b.1 k.1 both.1)

has_goes : (a : Option (ℤ × ℤ)) (z : ℤ) → has a z ≡ true → IsSomeAnd a (λ e. (e.0 ≤ℤ z) × (z ≤ℤ e.1))
has_goes None z h = absurd (false≢true h)
has_goes (Some a) z h =
    let both = and_parts (le_z a.0 z) (le_z z a.1) h in
    (under a.0 z z both.0 (same z), over z z a.1 (same z) both.1)
  where
    same : (z : ℤ) → z ≤ℤ z
    same z = omega (arith, ints)

-- the common type of whole numbers is one of whole numbers, and holds those of both
abbrev holds_both : Option Kind → Kind → Kind → Bool
holds_both None t u = true
holds_both (Some s) t u = is_whole (class_of s) && within (ends t) (ends s)

abbrev agrees_both : Kind → Kind → Bool
agrees_both t u = holds_both (supertype t u) t u && same_answer (supertype t u) (supertype u t)

all_agree : list_all (λ t. list_all (agrees_both t) whole_kinds) whole_kinds ≡ true
all_agree = refl

pub whole_common : (t u s : Kind) → is_whole (class_of t) ≡ true → is_whole (class_of u) ≡ true → supertype t u ≡ Some s → (is_whole (class_of s) ≡ true) × ((z : ℤ) → HasType t (int z) → HasType s (int z))
whole_common t u s w v e =
    let checked : (holds_both (supertype t u) t u && same_answer (supertype t u) (supertype u t)) ≡ true = whole_pairs agrees_both all_agree t u w v in
    let held : holds_both (Some s) t u ≡ true = rw e at (and_parts (holds_both (supertype t u) t u) _ checked).0 in
    let both = and_parts (is_whole (class_of s)) (within (ends t) (ends s)) held in
    (both.0, λ z h. within_goes (ends t) (ends s) z both.1 h)

pub whole_turned : (t u : Kind) → is_whole (class_of t) ≡ true → is_whole (class_of u) ≡ true → same_answer (supertype t u) (supertype u t) ≡ true
whole_turned t u w v =
    let checked : (holds_both (supertype t u) t u && same_answer (supertype t u) (supertype u t)) ≡ true = whole_pairs agrees_both all_agree t u w v in
    (and_parts (holds_both (supertype t u) t u) _ checked).1

-- each type of whole numbers holds 0 and 1, and its numbers have at most 128 bits
abbrev is_plain : Kind → Bool
is_plain t = has (ends t) (pos 0) && (has (ends t) (pos 1) && within (ends t) (ends int128))

all_plain : list_all is_plain whole_kinds ≡ true
all_plain = refl

pub has_truths : (t : Kind) → is_whole (class_of t) ≡ true → HasType t (int (pos 0)) × HasType t (int (pos 1))
has_truths t w =
    let both = and_parts (has (ends t) (pos 0)) _ (whole_all is_plain all_plain t w) in
    (has_goes (ends t) (pos 0) both.0, has_goes (ends t) (pos 1) (and_parts (has (ends t) (pos 1)) _ both.1).0)

pub is_bounded : (t : Kind) → is_whole (class_of t) ≡ true → (z : ℤ) → HasType t (int z) → HasType int128 (int z)
is_bounded t w z h =
    let both = and_parts (has (ends t) (pos 0)) _ (whole_all is_plain all_plain t w) in
    within_goes (ends t) (ends int128) z (and_parts (has (ends t) (pos 1)) _ both.1).1 h
