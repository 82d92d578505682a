-- The data that a value stands for.
use Rattle.std.specs.Prelude.{ℤ, pos, negsuc, List, [], ◌∷◌, map, Option, Some, None, option_and_then, String, string_bytes}
use Rattle.std.specs.declared.alloc.Global.{Global}
use Rattle.serde_json.specs.Data.{unsigned, negative, float, Data, null, boolean, number, string, array, object, Items, no_items, item, Members}
use Rattle.serde_json.specs.Find.{as_array}
use Rattle.serde_json.specs.View.{items_of, members_of}
use Rattle.tb_tree.specs.declared.value.Value.{Value, fold-Value}
use Rattle.tb_tree.specs.declared.value.Value.TheOpen.{Value-F}
use Rattle.tb_tree.specs.declared.items.Item.{Item}
use Rattle.tb_tree.specs.declared.items.Item.TheVariants.{Whole, Lent}
use Rattle.tb_tree.specs.declared.items.Items as lent
use Rattle.tb_tree.specs.declared.items.Items.TheVariants.{Short, Wholes, Two, Values}

-- a whole number
abbrev pub whole : ℤ → Data
whole (pos n) = number (unsigned n)
whole (negsuc n) = number (negative (negsuc n))

-- one level, with each value inside already seen as its data
abbrev pub view_step : Value-F Data → Data
view_step Value-F.Null = null
view_step (Value-F.Bool b) = boolean b
view_step (Value-F.Unsigned n) = number (unsigned n)
view_step (Value-F.Negative z) = number (negative z)
view_step (Value-F.Float x) = number (float x)
view_step (Value-F.Short s) = string s.value.bytes
view_step (Value-F.Long s) = string (string_bytes s.value)
view_step Value-F.Empty = array (items_of [])
view_step (Value-F.OneWhole z) = array (items_of (whole z ∷ []))
view_step (Value-F.Wholes zs) = array (items_of (map whole zs.value.items))
view_step (Value-F.One d) = array (items_of (d.value ∷ []))
view_step (Value-F.TwoShort y z) = array (items_of (whole y ∷ whole z ∷ []))
view_step (Value-F.Two p) = array (items_of (p.value.0 ∷ p.value.1 ∷ []))
view_step (Value-F.Array v) = array (items_of v.value.items)
view_step (Value-F.Object m) = object (members_of m.value.entries)

abbrev pub view : Value → Data
view = fold-Value Data view_step

abbrev pub items_view : List Value → Items
items_view vs = items_of (map view vs)

abbrev pub members_view : List (String Global × Value) → Members
members_view ms = members_of (map (λ m. (m.0, view m.1)) ms)

-- the values that are lent of an array, and one of them
abbrev pub listed : lent.Items → List Data
listed (Short y z) = whole y ∷ whole z ∷ []
listed (Wholes zs) = map whole zs.now
listed (Two v w) = view v.now ∷ view w.now ∷ []
listed (Values vs) = map view vs.now

abbrev pub item_view : Item → Data
item_view (Whole z) = whole z
item_view (Lent v) = view v.now

-- the values of an array of two
abbrev pub two_of : Items → Option (Data × Data)
two_of no_items = None
two_of (item d no_items) = None
two_of (item d (item e no_items)) = Some (d, e)
two_of (item d (item e (item f ds))) = None

abbrev pub pair_of : Data → Option (Data × Data)
pair_of d = option_and_then two_of (as_array d)
