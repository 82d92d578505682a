-- Rows of a list that are told apart by a test: the first of each kind, and the rows that are the same as each of these.
use Rattle.std.specs.Prelude.{ℕ, Bool, not, List, [], ◌∷◌, filter, map, slice_index_or}

-- the rows that none before them in the list is the same as
abbrev pub firsts_in : (ℕ → ℕ → Bool) → List ℕ → List ℕ
firsts_in test [] = []
firsts_in test (x ∷ xs) = x ∷ filter (λ y. not (test x y)) (firsts_in test xs)

-- the rows of the list in each group, by the groups' first rows
abbrev pub groups_in : (ℕ → ℕ → Bool) → List ℕ → List (List ℕ)
groups_in test rows = map (λ x. filter (test x) rows) (firsts_in test rows)

-- a test of rows, as a test of their places in a list
abbrev pub listed_test : List ℕ → (ℕ → ℕ → Bool) → ℕ → ℕ → Bool
listed_test rows test a b = test (slice_index_or rows a 0) (slice_index_or rows b 0)

-- the same by what the rows of the places are called
abbrev pub named_rows : (ℕ → ℕ) → (ℕ → ℕ → Bool) → ℕ → ℕ → Bool
named_rows name test a b = test (name a) (name b)
