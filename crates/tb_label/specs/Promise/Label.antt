-- The texts of values, by which columns are named.
use Rattle.std.specs.Prelude.{ℕ, Bool, true, false, List, [], Option, unwrap_or, codes}
use Rattle.std.specs.Fmt.{signed_decimal}
use Rattle.tb_value.specs.Promise.Datum.{Datum, null, boolean, int, string, binary, list, struct}
use Rattle.tb_value.specs.Promise.Kind.{Kind}
use Rattle.tb_value.specs.Promise.Kind as kind
use Rattle.tb_value.specs.Promise.Names.{Name}

abbrev pub truth_text : Bool → List ℕ
truth_text true = codes "true"
truth_text false = codes "false"

-- bytes, lists and structs name no column; their text is empty
abbrev pub value_text : Datum → List ℕ
value_text null = codes "null"
value_text (boolean b) = truth_text b
value_text (int z) = signed_decimal z
value_text (string s) = s
value_text (binary s) = []
value_text (list vs) = []
value_text (struct vs) = []

-- the types whose values name columns: Null, Boolean, whole numbers and String
abbrev pub is_header : Kind → Bool
is_header kind.null = true
is_header kind.boolean = true
is_header kind.int8 = true
is_header kind.int16 = true
is_header kind.int32 = true
is_header kind.int64 = true
is_header kind.int128 = true
is_header kind.uint8 = true
is_header kind.uint16 = true
is_header kind.uint32 = true
is_header kind.uint64 = true
is_header kind.string = true
is_header _ = false

-- what stands between the parts of a column's name, and `_` where nothing is given
abbrev pub separator_or : Option Name → Name
separator_or s = unwrap_or s (codes "_")
