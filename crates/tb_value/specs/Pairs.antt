-- The pairs of a join, over row numbers alone: l left rows, r right rows, and a test m of which rows match.
use Rattle.std.specs.Prelude.{ℕ, ◌==◌, Bool, false, List, Option, Some, None, count_by}
use Rattle.tb_value.specs.declared.index.JoinPair.{JoinPair}

-- a pair turned round
abbrev pub turn : JoinPair → JoinPair
turn pair = record { left = pair.right; right = pair.left }

-- a row number that is there, and equal
abbrev pub is_row : ℕ → Option ℕ → Bool
is_row i None = false
is_row i (Some k) = i == k

-- in how many pairs left row i stands
abbrev pub times : ℕ → List JoinPair → ℕ
times i ps = count_by (λ (pair : JoinPair). is_row i pair.left) ps
