-- The left rows of a listing that stand alone.
use Rattle.std.specs.Prelude.{ℕ, Bool, true, false, not, List, map, filter}
use Rattle.std.specs.List.{list_any}
use Rattle.tb_value.specs.Promise.Pairs.{row_numbers, left_only}
use Rattle.tb_value.specs.declared.index.JoinPair.{JoinPair}

-- the test has the answer that is asked for
abbrev pub is_so : Bool → Bool → Bool
is_so true b = b
is_so false b = not b

-- the left rows with a match, or those without one
abbrev pub left_alone : Bool → ℕ → ℕ → (ℕ → ℕ → Bool) → List JoinPair
left_alone met l r m =
    map left_only (filter (λ i. is_so met (list_any (m i) (row_numbers r))) (row_numbers l))
