-- When the flag of a column is true of its values.
use Rattle.std.specs.Prelude.{◌≡◌, ◌⊎◌, ◌++◌, List, filter, IsTrue}
use Rattle.std.specs.Prelude.{IsSorted as IsInOrder}
use Rattle.std.specs.Ordering.{flip_args}
use Rattle.std.specs.declared.cmp.Ordering.{Ordering}
use Rattle.tb_value.specs.Promise.Datum.{Datum, is_present}
use Rattle.tb_value.specs.Promise.Kind.{Kind}
use Rattle.tb_value.specs.Promise.SameKind.{is_key}
use Rattle.tb_value.specs.declared.sorted.IsSorted.{IsSorted}
use Rattle.tb_value.specs.declared.sorted.IsSorted.TheVariants.{Ascending, Descending, Not}
use Rattle.tb_cell.specs.Promise.Flag.{datum_cmp, nulls}

-- the values that are present, and the nulls
abbrev pub present_values : List Datum → List Datum
present_values = filter is_present

-- the nulls stand all first, or all last
abbrev pub HasNullsAtOneEnd : List Datum → Type 0
HasNullsAtOneEnd vs = (vs ≡ nulls vs ++ present_values vs) ⊎ (vs ≡ present_values vs ++ nulls vs)

-- the type has keys, the values that are present are in the order, and the nulls stand at one end
abbrev pub IsOrdered : (Datum → Datum → Ordering) → Kind → List Datum → Type 0
IsOrdered order t vs = IsTrue (is_key t) × IsInOrder order (present_values vs) × HasNullsAtOneEnd vs

-- what the flag says of values of the type
abbrev pub FlagHolds : IsSorted → Kind → List Datum → Type 0
FlagHolds Ascending t vs = IsOrdered datum_cmp t vs
FlagHolds Descending t vs = IsOrdered (flip_args datum_cmp) t vs
FlagHolds Not t vs = Unit {0}
