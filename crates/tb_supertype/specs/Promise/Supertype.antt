-- The type that two types have in common.
use Rattle.std.specs.Prelude.{ℕ, ◌*◌, ◌==◌, max, nat_lt, if◌then◌else◌, Option, Some, None}
use Rattle.tb_value.specs.Promise.Kind.{Kind, null, boolean, int8, int16, int32, int64, int128, uint8, uint16, uint32, uint64, string}
use Rattle.tb_value.specs.Promise.SameKind.{same_kind}
use Rattle.tb_supertype.specs.declared.class.Class.{Class}
use Rattle.tb_supertype.specs.declared.class.Class.TheVariants.{Nothing, Truth, Signed, Unsigned, Text, Other}

-- what a common type depends on: of whole numbers, whether they have a sign, and their bits
abbrev pub class_of : Kind → Class
class_of null = Nothing
class_of boolean = Truth
class_of int8 = Signed 8
class_of int16 = Signed 16
class_of int32 = Signed 32
class_of int64 = Signed 64
class_of int128 = Signed 128
class_of uint8 = Unsigned 8
class_of uint16 = Unsigned 16
class_of uint32 = Unsigned 32
class_of uint64 = Unsigned 64
class_of string = Text
class_of _ = Other

-- the narrowest signed type of at least n bits
abbrev pub signed_kind : ℕ → Kind
signed_kind n = (if nat_lt 64 n
    then int128
    else (if nat_lt 32 n
    then int64
    else (if nat_lt 16 n then int32 else (if nat_lt 8 n then int16 else int8))))

-- of two types of m and n bits, the one of more bits
abbrev pub wider_kind : Kind → Kind → ℕ → ℕ → Kind
wider_kind t u m n = (if nat_lt m n then u else t)

-- the type of signed numbers of s bits and unsigned ones of u bits, which have one bit more with a sign.
-- Those of 64 bits fit no signed type but that of 128, and take it only where it is there
abbrev pub mixed_kind : ℕ → ℕ → Option Kind
mixed_kind s u = (if s == 128
    then Some int128
    else (if u == 64 then None else Some (signed_kind (max s (2 * u)))))

-- of two types that differ: the other one of Null; whole numbers of Boolean; String of Boolean or whole numbers;
-- and whole numbers by their bits
abbrev pub common_by_class : Kind → Kind → Class → Class → Option Kind
common_by_class t u Nothing _ = Some u
common_by_class t u _ Nothing = Some t
common_by_class t u (Signed m) (Signed n) = Some (wider_kind t u m n)
common_by_class t u (Unsigned m) (Unsigned n) = Some (wider_kind t u m n)
common_by_class t u (Signed m) (Unsigned n) = mixed_kind m n
common_by_class t u (Unsigned m) (Signed n) = mixed_kind n m
common_by_class t u Truth (Signed n) = Some u
common_by_class t u Truth (Unsigned n) = Some u
common_by_class t u Truth Text = Some u
common_by_class t u (Signed m) Truth = Some t
common_by_class t u (Unsigned m) Truth = Some t
common_by_class t u Text Truth = Some t
common_by_class t u (Signed m) Text = Some u
common_by_class t u (Unsigned m) Text = Some u
common_by_class t u Text (Signed n) = Some t
common_by_class t u Text (Unsigned n) = Some t
common_by_class t u _ _ = None

abbrev pub supertype : Kind → Kind → Option Kind
supertype t u = (if same_kind t u then Some t else common_by_class t u (class_of t) (class_of u))
