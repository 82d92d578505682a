-- Some left rows of a join, and its pairs over them.
use Rattle.std.specs.Prelude.{ℕ, Bool, false, List, filter, slice_index_or, Option, Some, None}
use Rattle.std.specs.Option.{option_map}
use Rattle.tb_value.specs.Promise.Pairs.{row_numbers}
use Rattle.tb_value.specs.declared.index.JoinPair.{JoinPair}

abbrev pub passes_row : (ℕ → Bool) → Option ℕ → Bool
passes_row p None = false
passes_row p (Some i) = p i

-- the rows that pass, of so many
abbrev pub kept : (ℕ → Bool) → ℕ → List ℕ
kept p l = filter p (row_numbers l)

-- a pair over the kept rows, as one over all rows
abbrev pub over_all : (ℕ → Bool) → ℕ → JoinPair → JoinPair
over_all p l pair =
    record { left = option_map (λ k. slice_index_or (kept p l) k 0) pair.left; right = pair.right }
