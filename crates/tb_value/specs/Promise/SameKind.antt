-- Whether two types are the same, and which types have keys.
use Rattle.std.specs.Prelude.{Bool, true, false, ◌&&◌, ℕ, List, Option, Some, None}
use Rattle.tb_value.specs.Promise.Names.{same_name}
use Rattle.tb_value.specs.Promise.Kind.{Kind, Part, Parts, null, boolean, int8, int16, int32, int64, int128, uint8, uint16, uint32, uint64, string, binary, date, time, datetime, duration, list, struct, end, part}
use Rattle.tb_value.specs.declared.dtype.TimeUnit.{TimeUnit}
use Rattle.tb_value.specs.declared.dtype.TimeUnit.TheVariants.{Nanoseconds, Microseconds, Milliseconds}

abbrev pub same_unit : TimeUnit → TimeUnit → Bool
same_unit Nanoseconds Nanoseconds = true
same_unit Microseconds Microseconds = true
same_unit Milliseconds Milliseconds = true
same_unit _ _ = false

abbrev pub same_zone : Option (List ℕ) → Option (List ℕ) → Bool
same_zone None None = true
same_zone (Some a) (Some b) = same_name a b
same_zone _ _ = false

abbrev mutual
  pub same_kind : Kind → Kind → Bool
  same_kind null null = true
  same_kind boolean boolean = true
  same_kind int8 int8 = true
  same_kind int16 int16 = true
  same_kind int32 int32 = true
  same_kind int64 int64 = true
  same_kind int128 int128 = true
  same_kind uint8 uint8 = true
  same_kind uint16 uint16 = true
  same_kind uint32 uint32 = true
  same_kind uint64 uint64 = true
  same_kind string string = true
  same_kind binary binary = true
  same_kind date date = true
  same_kind time time = true
  same_kind (datetime u z) (datetime v y) = same_unit u v && same_zone z y
  same_kind (duration u) (duration v) = same_unit u v
  same_kind (list t) (list u) = same_kind t u
  same_kind (struct ps) (struct qs) = same_parts ps qs
  same_kind _ _ = false

  -- the same names and types in the same order
  pub same_parts : Parts → Parts → Bool
  same_parts end end = true
  same_parts (part n t ps) (part m u qs) = same_name n m && same_kind t u && same_parts ps qs
  same_parts _ _ = false

-- the same name and type
abbrev pub same_part : Part → Part → Bool
same_part p q = same_name p.0 q.0 && same_kind p.1 q.1

-- true but for Null, List and Struct
abbrev pub is_key : Kind → Bool
is_key null = false
is_key (list t) = false
is_key (struct ps) = false
is_key _ = true
