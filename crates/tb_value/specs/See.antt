-- The value that an `AnyValue` stands for.
use Rattle.std.specs.Prelude.{List, map}
use Rattle.std.specs.Str.{IsUtf8}
use Rattle.tb_value.specs.Promise.Datum.{Datum, null, boolean, int, string, binary, list, struct, items_of}
use Rattle.tb_value.specs.declared.any_value.AnyValue.{AnyValue}
use Rattle.tb_value.specs.declared.any_value.AnyValue.TheVariants as any
use Rattle.tb_value.specs.declared.any_value.ValueRef.{ValueRef}
use Rattle.tb_value.specs.declared.any_value.ValueRef.TheVariants as ref

abbrev pub datum : AnyValue → Datum
datum any.Null = null
datum (any.Boolean b) = boolean b
datum (any.Int i) = int i
datum (any.String s) = string s
datum (any.Binary s) = binary s
datum (any.List vs) = list (items_of vs)
datum (any.Struct vs) = struct (items_of vs)

abbrev pub data_of : List AnyValue → List Datum
data_of vs = map datum vs

-- the value that a lent one stands for
abbrev pub lent_value : ValueRef → Datum
lent_value ref.Null = null
lent_value (ref.Boolean b) = boolean b
lent_value (ref.Int i) = int i
lent_value (ref.String s) = string s.now
lent_value (ref.Binary s) = binary s.now
lent_value (ref.List vs) = list (items_of vs.now)
lent_value (ref.Struct vs) = struct (items_of vs.now)

-- a text's bytes are UTF-8
abbrev pub IsText : ValueRef → Type 0
IsText (ref.String s) = IsUtf8 s.now
IsText _ = Unit {0}
