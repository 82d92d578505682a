-- How it is seen that values ascend, or descend.
use Rattle.std.specs.Prelude.{◌&&◌, not, Bool, true, false, ℕ, ◌-◌, List, [], ◌∷◌, Option, Some, None, if◌then◌else◌, is_some, length, get_or, take, drop}
use Rattle.std.specs.Ordering.{is_lt, flip_args}
use Rattle.std.specs.declared.cmp.Ordering.{Ordering}
use Rattle.tb_value.specs.Promise.Datum.{Datum, null, is_null, is_present}
use Rattle.tb_cell.specs.Promise.Flag.{datum_cmp, nulls}

-- the order in which values ascend, or the one in which they descend
abbrev pub order_of : Bool → Datum → Datum → Ordering
order_of false = datum_cmp
order_of true = flip_args datum_cmp

-- whether a value is present and not less than the one before it; before the first stands Null
abbrev pub may_follow : Bool → Datum → Datum → Bool
may_follow descending before v = is_present v && not (is_lt (order_of descending v before))

-- the last of values that may follow one another, behind one that stands before them; none where they may not
abbrev pub last_in_order : Bool → Datum → List Datum → Option Datum
last_in_order descending before [] = Some before
last_in_order descending before (v ∷ vs) =
    (if may_follow descending before v then last_in_order descending v vs else None)

-- where the values that are present start, if the nulls stand at one end
abbrev pub present_from : List Datum → ℕ
present_from vs = (if is_null (get_or vs 0 null) then length (nulls vs) else 0)

-- whether as many values from there on as are present may follow one another
unfoldable pub keeps_order : Bool → List Datum → Bool
keeps_order descending vs = is_some
    (last_in_order descending null
    (take (length vs - length (nulls vs)) (drop (present_from vs) vs)))
