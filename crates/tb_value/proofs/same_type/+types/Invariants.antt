use Rattle.std.proofs.Common.{◌≡◌, ◌+◌, ◌*◌, map, drop}
use Rattle.tb_value.specs.Promise.Kind.{weight, weights, parts_of}
use Rattle.tb_value.specs.Promise.SameKind.{same_parts}
use Rattle.tb_value.specs.SeeKind.{kind_of, part, parts}
use Rattle.tb_value.proofs.same_type.+types.Given as goal

abbrev pub decreases-same_type : goal.decreases-same_type
decreases-same_type l = 3 * weight (kind_of l.first.now)

abbrev pub decreases-same_fields : goal.decreases-same_fields
decreases-same_fields l = 3 * weights (parts_of (parts l.first.now)) + 1

abbrev pub decreases-is_struct : goal.decreases-is_struct
decreases-is_struct l = 3 * weights (parts_of (parts l.fields.now)) + 2

-- the fields that are left decide
abbrev pub invariant-same_fields-loop-i : goal.invariant-same_fields-loop-i
invariant-same_fields-loop-i l =
    same_parts (parts_of (parts l.fn.first)) (parts_of (parts l.fn.second))
    ≡ same_parts (parts_of (map part (drop l.i l.fields))) (parts_of (map part (drop l.i l.others)))
