-- How a list is cut in portions.
use Rattle.std.specs.Prelude.{ℕ, ◌+◌, ◌-◌, ◌*◌, ◌/◌, ◌==◌, cond, List}
use Rattle.std.specs.List.{range_with_len}

-- Portion i of n, its offset and its length. Each has len / n items, and the last takes the rest too
abbrev pub portion_of : ℕ → ℕ → ℕ → ℕ × ℕ
portion_of len n i = (i * (len / n), cond (i + 1 == n) (len - i * (len / n)) (len / n))

-- the places that a portion has
abbrev pub places_of : ℕ × ℕ → List ℕ
places_of portion = range_with_len portion.0 portion.1
