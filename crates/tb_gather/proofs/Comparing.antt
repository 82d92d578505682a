-- Values of one type are ordered as their contents are.
use Rattle.std.proofs.Common.{arith, ◌≡◌, ◌∙◌, ℕ, ◌<◌, Bool, true, false, ℤ, List, refl, ap, sym}
use Rattle.std.specs.Cmp.{IsTotalOrder}
use Rattle.std.specs.Cmp.Lexicographic.{slice_cmp}
use Rattle.std.specs.Ordering.{nat_cmp, int_cmp, bool_cmp, flip_args, is_lt, is_gt, ordering_reverse}
use Rattle.std.specs.Cmp.{bool_cmp_total}
use Rattle.std.proofs.lemmas.Cmp.{upto, int_cmp_total, nat_list_cmp_total, tied_itself}
use Rattle.std.specs.declared.cmp.Ordering.{Ordering}
use Rattle.std.specs.declared.cmp.Ordering.TheVariants.{Less, Equal, Greater}
use Rattle.tb_value.specs.Promise.Datum.{Datum, is_present}
use Rattle.tb_value.specs.Promise.Datum as value
use Rattle.tb_value.specs.Promise.Kind.{Kind}
use Rattle.tb_value.specs.Promise.Kind as kind
use Rattle.tb_value.specs.Promise.SameKind.{is_key}
use Rattle.tb_value.specs.Promise.Typed.{HasType}
use Rattle.tb_cell.specs.Promise.Flag.{datum_cmp}

-- the second is not less than the first
abbrev pub UpTo : {X : Type 0} → (X → X → Ordering) → X → X → Type 0
UpTo order a b = is_lt (order b a) ≡ false

turned : (o : Ordering) → is_gt (ordering_reverse o) ≡ is_lt o
turned Less = refl
turned Equal = refl
turned Greater = refl

module _ {X : Type 0} (R : X → X → Ordering) (o : IsTotalOrder R) where
  not_above : (x y : X) → UpTo R x y → is_gt (R x y) ≡ false
  not_above x y h = ap is_gt (o.antisymm x y) ∙ (turned (R y x) ∙ h)

  upto_of : (x y : X) → is_gt (R x y) ≡ false → UpTo R x y
  upto_of x y h = sym (turned (R y x)) ∙ (ap is_gt (sym (o.antisymm x y)) ∙ h)

  upto-trans : (x y z : X) → UpTo R x y → UpTo R y z → UpTo R x z
  upto-trans x y z h k = upto_of x z (upto o x y z (not_above x y h) (not_above y z k))

  upto-refl : (x : X) → UpTo R x x
  upto-refl x = ap is_lt (tied_itself o x)

-- what a value is stored as, by number
abbrev class : Datum → ℕ
class value.null = 0
class (value.boolean b) = 1
class (value.int i) = 2
class (value.string s) = 3
class (value.binary s) = 4
class (value.list vs) = 5
class (value.struct vs) = 6

abbrev class_of : Kind → ℕ
class_of kind.boolean = 1
class_of kind.string = 3
class_of kind.binary = 4
class_of kind.null = 0
class_of (kind.list t) = 5
class_of (kind.struct ps) = 6
class_of _ = 2

int_class : (t : Kind) (i : ℤ) → HasType t (value.int i) → 2 ≡ class_of t
int_class kind.int8 i h = refl
int_class kind.int16 i h = refl
int_class kind.int32 i h = refl
int_class kind.int64 i h = refl
int_class kind.int128 i h = refl
int_class kind.uint8 i h = refl
int_class kind.uint16 i h = refl
int_class kind.uint32 i h = refl
int_class kind.uint64 i h = refl
int_class kind.date i h = refl
int_class kind.time i h = refl
int_class (kind.datetime u z) i h = refl
int_class (kind.duration u) i h = refl
int_class kind.null i h = absurd h
int_class kind.boolean i h = absurd h
int_class kind.string i h = absurd h
int_class kind.binary i h = absurd h
int_class (kind.list t) i h = absurd h
int_class (kind.struct ps) i h = absurd h

list_class : (t : Kind) (vs : value.Items) → HasType t (value.list vs) → 5 ≡ class_of t
list_class (kind.list t) vs h = refl
list_class kind.int8 vs h = absurd h
list_class kind.int16 vs h = absurd h
list_class kind.int32 vs h = absurd h
list_class kind.int64 vs h = absurd h
list_class kind.int128 vs h = absurd h
list_class kind.uint8 vs h = absurd h
list_class kind.uint16 vs h = absurd h
list_class kind.uint32 vs h = absurd h
list_class kind.uint64 vs h = absurd h
list_class kind.date vs h = absurd h
list_class kind.time vs h = absurd h
list_class (kind.datetime u z) vs h = absurd h
list_class (kind.duration u) vs h = absurd h
list_class kind.null vs h = absurd h
list_class kind.boolean vs h = absurd h
list_class kind.string vs h = absurd h
list_class kind.binary vs h = absurd h
list_class (kind.struct ps) vs h = absurd h

struct_class : (t : Kind) (vs : value.Items) → HasType t (value.struct vs) → 6 ≡ class_of t
struct_class (kind.struct ps) vs h = refl
struct_class kind.int8 vs h = absurd h
struct_class kind.int16 vs h = absurd h
struct_class kind.int32 vs h = absurd h
struct_class kind.int64 vs h = absurd h
struct_class kind.int128 vs h = absurd h
struct_class kind.uint8 vs h = absurd h
struct_class kind.uint16 vs h = absurd h
struct_class kind.uint32 vs h = absurd h
struct_class kind.uint64 vs h = absurd h
struct_class kind.date vs h = absurd h
struct_class kind.time vs h = absurd h
struct_class (kind.datetime u z) vs h = absurd h
struct_class (kind.duration u) vs h = absurd h
struct_class kind.null vs h = absurd h
struct_class kind.boolean vs h = absurd h
struct_class kind.string vs h = absurd h
struct_class kind.binary vs h = absurd h
struct_class (kind.list t) vs h = absurd h

-- a value of the type that is present
abbrev pub IsOf : Kind → Datum → Type 0
IsOf t v = HasType t v × (is_present v ≡ true)

typed_class : (t : Kind) (v : Datum) → IsOf t v → class v ≡ class_of t
typed_class t value.null h = absurd (cc)
typed_class t (value.boolean b) h = sym (ap class_of h.0)
typed_class t (value.int i) h = int_class t i h.0
typed_class t (value.string s) h = sym (ap class_of h.0.0)
typed_class t (value.binary s) h = sym (ap class_of h.0.0)
typed_class t (value.list vs) h = list_class t vs h.0
typed_class t (value.struct vs) h = struct_class t vs h.0

-- the contents of values of a class
as_boolean : (v : Datum) → class v ≡ 1 → (b : Bool) × (v ≡ value.boolean b)
as_boolean (value.boolean b) e = (b, refl)
as_boolean value.null e = absurd (omega (arith, e))
as_boolean (value.int i) e = absurd (omega (arith, e))
as_boolean (value.string s) e = absurd (omega (arith, e))
as_boolean (value.binary s) e = absurd (omega (arith, e))
as_boolean (value.list vs) e = absurd (omega (arith, e))
as_boolean (value.struct vs) e = absurd (omega (arith, e))

as_int : (v : Datum) → class v ≡ 2 → (i : ℤ) × (v ≡ value.int i)
as_int (value.int i) e = (i, refl)
as_int value.null e = absurd (omega (arith, e))
as_int (value.boolean b) e = absurd (omega (arith, e))
as_int (value.string s) e = absurd (omega (arith, e))
as_int (value.binary s) e = absurd (omega (arith, e))
as_int (value.list vs) e = absurd (omega (arith, e))
as_int (value.struct vs) e = absurd (omega (arith, e))

as_string : (v : Datum) → class v ≡ 3 → (s : List ℕ) × (v ≡ value.string s)
as_string (value.string s) e = (s, refl)
as_string value.null e = absurd (omega (arith, e))
as_string (value.boolean b) e = absurd (omega (arith, e))
as_string (value.int i) e = absurd (omega (arith, e))
as_string (value.binary s) e = absurd (omega (arith, e))
as_string (value.list vs) e = absurd (omega (arith, e))
as_string (value.struct vs) e = absurd (omega (arith, e))

as_binary : (v : Datum) → class v ≡ 4 → (s : List ℕ) × (v ≡ value.binary s)
as_binary (value.binary s) e = (s, refl)
as_binary value.null e = absurd (omega (arith, e))
as_binary (value.boolean b) e = absurd (omega (arith, e))
as_binary (value.int i) e = absurd (omega (arith, e))
as_binary (value.string s) e = absurd (omega (arith, e))
as_binary (value.list vs) e = absurd (omega (arith, e))
as_binary (value.struct vs) e = absurd (omega (arith, e))

Chain : Datum → Datum → Datum → Type 0
Chain a b c = UpTo datum_cmp a b → UpTo datum_cmp b c → UpTo datum_cmp a c

-- of one class the order chains
chain : (a b c : Datum) → class a ≡ class b → class a ≡ class c → 0 < class a → class a < 5 → Chain a b c
unfolding Chain
chain value.null b c e f low high = absurd (omega arith)
chain (value.boolean x) b c e f low high =
    let y = as_boolean b (sym e) in
    let z = as_boolean c (sym f) in
    rw (y.1, z.1) (upto-trans bool_cmp bool_cmp_total x y.0 z.0)
chain (value.int x) b c e f low high =
    let y = as_int b (sym e) in
    let z = as_int c (sym f) in
    rw (y.1, z.1) (upto-trans int_cmp int_cmp_total x y.0 z.0)
chain (value.string x) b c e f low high =
    let y = as_string b (sym e) in
    let z = as_string c (sym f) in
    rw (y.1, z.1) (upto-trans (slice_cmp nat_cmp) nat_list_cmp_total x y.0 z.0)
chain (value.binary x) b c e f low high =
    let y = as_binary b (sym e) in
    let z = as_binary c (sym f) in
    rw (y.1, z.1) (upto-trans (slice_cmp nat_cmp) nat_list_cmp_total x y.0 z.0)
chain (value.list vs) b c e f low high = absurd (omega arith)
chain (value.struct vs) b c e f low high = absurd (omega arith)

key_class : (t : Kind) → is_key t ≡ true → (0 < class_of t) × (class_of t < 5)
key_class kind.null h = absurd (cc)
key_class (kind.list t) h = absurd (cc)
key_class (kind.struct ps) h = absurd (cc)
key_class kind.int8 h = (omega arith, omega arith)
key_class kind.int16 h = (omega arith, omega arith)
key_class kind.int32 h = (omega arith, omega arith)
key_class kind.int64 h = (omega arith, omega arith)
key_class kind.int128 h = (omega arith, omega arith)
key_class kind.uint8 h = (omega arith, omega arith)
key_class kind.uint16 h = (omega arith, omega arith)
key_class kind.uint32 h = (omega arith, omega arith)
key_class kind.uint64 h = (omega arith, omega arith)
key_class kind.date h = (omega arith, omega arith)
key_class kind.time h = (omega arith, omega arith)
key_class (kind.datetime u z) h = (omega arith, omega arith)
key_class (kind.duration u) h = (omega arith, omega arith)
key_class kind.boolean h = (omega arith, omega arith)
key_class kind.string h = (omega arith, omega arith)
key_class kind.binary h = (omega arith, omega arith)

-- an order chains over values, and puts none behind itself
pub record Orders (order : Datum → Datum → Ordering) (P : Datum → Type 0) : Type 0 where
  pub chains : (a b c : Datum) → P a → P b → P c → UpTo order a b → UpTo order b c → UpTo order a c
  pub itself : (a : Datum) → UpTo order a a

itself_cmp : (a : Datum) → UpTo datum_cmp a a
itself_cmp value.null = refl
itself_cmp (value.boolean b) = upto-refl bool_cmp bool_cmp_total b
itself_cmp (value.int i) = upto-refl int_cmp int_cmp_total i
itself_cmp (value.string s) = upto-refl (slice_cmp nat_cmp) nat_list_cmp_total s
itself_cmp (value.binary s) = upto-refl (slice_cmp nat_cmp) nat_list_cmp_total s
itself_cmp (value.list vs) = refl
itself_cmp (value.struct vs) = refl

pub ascending-orders : (t : Kind) → is_key t ≡ true → Orders datum_cmp (IsOf t)
unfolding Chain
ascending-orders t key = record {
  chains = λ a b c p q r.
      let i : class a ≡ class_of t = typed_class t a p in
      let j : class b ≡ class_of t = typed_class t b q in
      let k : class c ≡ class_of t = typed_class t c r in
      let within = key_class t key in
      chain a b c (i ∙ sym j) (i ∙ sym k) (omega (arith, i, within.0)) (omega (arith, i, within.1));
  itself = itself_cmp;
}

pub descending-orders : (t : Kind) → is_key t ≡ true → Orders (flip_args datum_cmp) (IsOf t)
descending-orders t key = record {
  chains = λ a b c p q r h k. (ascending-orders t key).chains c b a r q p k h;
  itself = itself_cmp;
}
