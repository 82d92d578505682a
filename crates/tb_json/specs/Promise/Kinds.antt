-- The type that a JSON value stands for.
use Rattle.std.specs.Prelude.{List, ℕ, ◌&&◌, if◌then◌else◌, Option, Some, None, option_map, option_and_then, codes}
use Rattle.std.specs.Str.{bytes_eq}
use Rattle.serde_json.specs.Data.{Data, null, boolean, number, string, array, object, Items, no_items, item, Members, no_members, member}
use Rattle.serde_json.specs.Find.{as_str}
use Rattle.tb_value.specs.Promise.Kind as kind
use Rattle.tb_value.specs.Promise.Kind.{Kind, Parts, Part}
use Rattle.tb_value.specs.Promise.Names.{Name}
use Rattle.tb_value.specs.declared.dtype.TimeUnit.{TimeUnit}
use Rattle.tb_value.specs.declared.dtype.TimeUnit.TheVariants.{Nanoseconds, Microseconds, Milliseconds}
use Rattle.tb_json.specs.Promise.Lists.{◌>>=◌}

abbrev pub number_kind : List ℕ → Option Kind
number_kind s =
    if bytes_eq s (codes "i8") then Some kind.int8
    else if bytes_eq s (codes "i16") then Some kind.int16
    else if bytes_eq s (codes "i32") then Some kind.int32
    else if bytes_eq s (codes "i64") then Some kind.int64
    else if bytes_eq s (codes "i128") then Some kind.int128
    else if bytes_eq s (codes "u8") then Some kind.uint8
    else if bytes_eq s (codes "u16") then Some kind.uint16
    else if bytes_eq s (codes "u32") then Some kind.uint32
    else if bytes_eq s (codes "u64") then Some kind.uint64
    else None

-- the types that are words
abbrev pub word_kind : List ℕ → Option Kind
word_kind s =
    if bytes_eq s (codes "null") then Some kind.null
    else if bytes_eq s (codes "bool") then Some kind.boolean
    else if bytes_eq s (codes "str") then Some kind.string
    else if bytes_eq s (codes "bin") then Some kind.binary
    else if bytes_eq s (codes "date") then Some kind.date
    else if bytes_eq s (codes "time") then Some kind.time
    else number_kind s

abbrev pub unit_named : List ℕ → Option TimeUnit
unit_named s =
    if bytes_eq s (codes "ns") then Some Nanoseconds
    else if bytes_eq s (codes "us") then Some Microseconds
    else if bytes_eq s (codes "ms") then Some Milliseconds
    else None

-- a time zone is a text, and null where there is none
abbrev pub zone_in : Data → Option (Option Name)
zone_in null = Some None
zone_in (boolean b) = None
zone_in (number n) = None
zone_in (string s) = Some (Some s)
zone_in (array ds) = None
zone_in (object ms) = None

abbrev pub datetime_in : Data → Data → Option Kind
datetime_in u z = do
  unit ← as_str u >>= unit_named
  zone ← zone_in z
  Some (kind.datetime unit zone)

abbrev pub duration_in : Data → Option Kind
duration_in u = option_map kind.duration (as_str u >>= unit_named)

-- a field of this name and this type, where both are there
abbrev pub field_named : Option Kind → Data → Option Part
field_named t n = option_and_then (λ s. option_map (λ k. (s, k)) t) (as_str n)

-- A type is a word, {"datetime":U,"zone":Z}, {"duration":U}, {"list":T} or {"struct":[F, ..]}, where each field F is
-- {"name":N,"type":T}. The members of an object stand in the order of their names.
abbrev mutual
  pub kind_in : Data → Option Kind
  kind_in null = None
  kind_in (boolean b) = None
  kind_in (number n) = None
  kind_in (string s) = word_kind s
  kind_in (array ds) = None
  kind_in (object ms) = members_kind ms

  pub members_kind : Members → Option Kind
  members_kind no_members = None
  members_kind (member k d no_members) =
      if bytes_eq k (codes "list") then option_map kind.list (kind_in d)
      else if bytes_eq k (codes "struct") then option_map kind.struct (parts_in d)
      else if bytes_eq k (codes "duration") then duration_in d
      else None
  members_kind (member k d (member l e no_members)) = if bytes_eq k (codes "datetime") && bytes_eq l (codes "zone") then datetime_in d e else None
  members_kind (member k d (member l e (member m f ms))) = None

  -- the fields of a struct
  pub parts_in : Data → Option Parts
  parts_in null = None
  parts_in (boolean b) = None
  parts_in (number n) = None
  parts_in (string s) = None
  parts_in (array ds) = each_part ds
  parts_in (object ms) = None

  pub each_part : Items → Option Parts
  each_part no_items = Some kind.end
  each_part (item d ds) =
      option_and_then (λ p. option_map (kind.part p.0 p.1) (each_part ds)) (part_in d)

  pub part_in : Data → Option Part
  part_in null = None
  part_in (boolean b) = None
  part_in (number n) = None
  part_in (string s) = None
  part_in (array ds) = None
  part_in (object ms) = members_part ms

  pub members_part : Members → Option Part
  members_part no_members = None
  members_part (member k n no_members) = None
  members_part (member k n (member l t no_members)) = if bytes_eq k (codes "name") && bytes_eq l (codes "type") then field_named (kind_in t) n else None
  members_part (member k n (member l t (member m u ms))) = None
