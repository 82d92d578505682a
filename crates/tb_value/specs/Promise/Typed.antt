-- Which values are of a type.
use Rattle.std.specs.Prelude.{◌≡◌, ◌<◌, ◌^◌, ◌≤ℤ◌, ℕ, ℤ, pos, negsuc, List, length, slice_index, Option, Some, None, IsSomeAnd, Bool, is_some}
use Rattle.std.specs.Str.{IsUtf8}
use Rattle.tb_value.specs.Promise.Datum.{Datum, Items, items_of}
use Rattle.tb_value.specs.Promise.Datum as value
use Rattle.tb_value.specs.Promise.Kind.{Kind, Part, Parts, parts_of, int8, int16, int32, int64, int128, uint8, uint16, uint32, uint64, date, time, datetime, duration}
use Rattle.tb_value.specs.Promise.Kind as kind

-- the least and the greatest number of a type
abbrev pub ends : Kind → Option (ℤ × ℤ)
ends int8 = Some (negsuc 127, pos 127)
ends int16 = Some (negsuc 32767, pos 32767)
ends int32 = Some (negsuc 2147483647, pos 2147483647)
ends int64 = Some (negsuc 9223372036854775807, pos 9223372036854775807)
ends int128 = Some
    (negsuc 170141183460469231731687303715884105727, pos 170141183460469231731687303715884105727)
ends uint8 = Some (pos 0, pos 255)
ends uint16 = Some (pos 0, pos 65535)
ends uint32 = Some (pos 0, pos 4294967295)
ends uint64 = Some (pos 0, pos 18446744073709551615)
ends date = Some (negsuc 2147483647, pos 2147483647)
ends time = Some (negsuc 9223372036854775807, pos 9223372036854775807)
ends (datetime u z) = Some (negsuc 9223372036854775807, pos 9223372036854775807)
ends (duration u) = Some (negsuc 9223372036854775807, pos 9223372036854775807)
ends _ = None

-- whether values of the type are stored as whole numbers: of whole numbers themselves, dates and times
abbrev pub is_whole_physical : Kind → Bool
is_whole_physical t = is_some (ends t)

-- each of the numbers is a byte
abbrev pub IsBytes : List ℕ → Type 0
IsBytes s = (i : ℕ) → slice_index s i < 256

-- a list type, and what holds of the type inside
abbrev pub IsListOf : Kind → (Kind → Type 0) → Type 0
IsListOf (kind.list t) P = P t
IsListOf _ P = ⊥

-- a struct type, and what holds of its fields
abbrev pub IsStructOf : Kind → (Parts → Type 0) → Type 0
IsStructOf (kind.struct ps) P = P ps
IsStructOf _ P = ⊥

abbrev mutual
  pub HasType : Kind → Datum → Type 0
  HasType t value.null = Unit {0}
  HasType t (value.boolean b) = t ≡ kind.boolean
  HasType t (value.int i) = IsSomeAnd (ends t) (λ e. (e.0 ≤ℤ i) × (i ≤ℤ e.1))
  HasType t (value.string s) = (t ≡ kind.string) × (length s < 2 ^ 32) × IsUtf8 s
  HasType t (value.binary s) = (t ≡ kind.binary) × (length s < 2 ^ 32) × IsBytes s
  HasType t (value.list vs) = IsListOf t (λ u. AreOf u vs)
  HasType t (value.struct vs) = IsStructOf t (λ ps. AreEachOf ps vs)

  -- each value is of the type
  pub AreOf : Kind → Items → Type 0
  AreOf t value.end = Unit {0}
  AreOf t (value.more v vs) = HasType t v × AreOf t vs

  -- one value of each field's type
  pub AreEachOf : Parts → Items → Type 0
  AreEachOf kind.end value.end = Unit {0}
  AreEachOf (kind.part n t ps) (value.more v vs) = HasType t v × AreEachOf ps vs
  AreEachOf _ _ = ⊥

-- a row of values fits fields: as many values as fields, each of its field's type, of which Null always is
abbrev pub FitsFields : List Part → List Datum → Type 0
FitsFields fields row = AreEachOf (parts_of fields) (items_of row)
