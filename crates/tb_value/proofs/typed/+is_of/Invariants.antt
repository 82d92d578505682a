use Rattle.std.proofs.Common.{◌↔◌, ◌+◌, ◌*◌, map, drop}
use Rattle.tb_value.specs.Promise.Datum.{items_of, weight, weights}
use Rattle.tb_value.specs.See.{datum}
use Rattle.tb_value.specs.SeeKind.{kind_of, part}
use Rattle.tb_value.specs.Promise.Typed.{AreOf, FitsFields}
use Rattle.tb_value.proofs.typed.+is_of.Given as goal

-- the values at hand grow lighter
abbrev pub decreases-is_of : goal.decreases-is_of
decreases-is_of l = 3 * weight (datum l.value.now)

abbrev pub decreases-is_list_of : goal.decreases-is_list_of
decreases-is_list_of l = 3 * weights (items_of l.values.now) + 2

abbrev pub decreases-is_struct_of : goal.decreases-is_struct_of
decreases-is_struct_of l = 3 * weights (items_of l.values.now) + 2

abbrev pub decreases-are_of : goal.decreases-are_of
decreases-are_of l = 3 * weights (items_of l.values.now) + 1

abbrev pub decreases-fits_fields : goal.decreases-fits_fields
decreases-fits_fields l = 3 * weights (items_of (map datum l.values.now)) + 1

-- the values that are left decide
abbrev pub invariant-are_of-loop-value : goal.invariant-are_of-loop-value
invariant-are_of-loop-value l = AreOf (kind_of l.dtype) (items_of l.values) ↔ AreOf (kind_of l.dtype) (items_of (map datum (drop l.value-index l.value-items)))

abbrev pub invariant-fits_fields-loop-i : goal.invariant-fits_fields-loop-i
invariant-fits_fields-loop-i l =
    FitsFields (map part l.fn.fields) (map datum l.fn.values) ↔ FitsFields (map part (drop l.i l.fields)) (map datum (drop l.i l.values))
