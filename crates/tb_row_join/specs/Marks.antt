-- The marks beside numbers.
use Rattle.std.specs.Prelude.{ℕ, ◌==◌, not, Bool, true, List, [], ◌∷◌, slice_index_or}

-- there are no marks, or that of the row isn't 0
abbrev pub is_there : List ℕ → ℕ → Bool
is_there [] row = true
is_there (m ∷ ms) row = not (slice_index_or (m ∷ ms) row 0 == 0)
