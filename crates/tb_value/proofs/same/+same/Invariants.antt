use Rattle.std.proofs.Common.{◌≡◌, map, drop}
use Rattle.tb_value.specs.Promise.Datum.{items_of}
use Rattle.tb_value.specs.Promise.Same.{same_items}
use Rattle.tb_value.specs.See.{datum}
use Rattle.tb_value.proofs.same.+same.Given as goal

-- the values that are left decide
abbrev pub invariant-same_lists-loop-i : goal.invariant-same_lists-loop-i
invariant-same_lists-loop-i l =
    same_items (items_of (map datum l.first-inside.items.items)) (items_of (map datum l.second-inside.items.items))
    ≡ same_items (items_of (map datum (drop l.i l.first-inside.items.items))) (items_of (map datum (drop l.i l.second-inside.items.items)))
