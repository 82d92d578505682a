-- The column of an aggregate, and why there is none.
use Rattle.std.specs.Prelude.{◌&&◌, ℤ, Bool, true, false, List, Option, Some, None, int_le}
use Rattle.std.specs.List.{list_all}
use Rattle.tb_value.specs.Promise.Kind.{Kind}
use Rattle.tb_value.specs.Promise.Typed.{ends}

-- whether a number lies from one end to the other
abbrev pub lies_within : Option (ℤ × ℤ) → ℤ → Bool
lies_within None z = false
lies_within (Some e) z = int_le e.0 z && int_le z e.1

-- whether the sums are numbers of their type
abbrev pub are_in_range : Option Kind → List ℤ → Bool
are_in_range None zs = true
are_in_range (Some t) zs = list_all (lies_within (ends t)) zs
