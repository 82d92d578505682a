-- Rows in groups by two groupings at once: each row has two numbers.
use Rattle.std.specs.Prelude.{◌≡◌, ◌==◌, ◌&&◌, ◌<◌, ℕ, Bool, List, length, slice_index_or, Option, Some, None, if◌then◌else◌}
use Rattle.tb_rows.specs.Coded.{leader}
use Rattle.tb_rows.specs.declared.groups.Groups.{Groups}

-- whether two rows have the same numbers in both lists
abbrev pub same_pair : List ℕ → List ℕ → ℕ → ℕ → Bool
same_pair xs ys i j = (slice_index_or xs i 0 == slice_index_or xs j 0)
    && (slice_index_or ys i 0 == slice_index_or ys j 0)

-- whether two rows are in one group by each of two groupings
abbrev pub in_both : Groups → Groups → ℕ → ℕ → Bool
in_both g h = same_pair g.numbers.items h.numbers.items

-- the row that is kept where it has the second number of a row, and else this row
abbrev pub kept_or : Option ℕ → List ℕ → ℕ → ℕ
kept_or None ys j = j
kept_or (Some i) ys j = (if slice_index_or ys i 0 == slice_index_or ys j 0 then i else j)

-- each row has two numbers, of which the first is below many
pub record ArePairs (xs ys : List ℕ) (many : ℕ) : Type 0 where
  pub long : length ys ≡ length xs
  pub below : (j : ℕ) → j < length xs → slice_index_or xs j 0 < many

-- what is kept for a first number is a row that has it, the first one of its pair
abbrev pub AreKept : List ℕ → List ℕ → List (Option ℕ) → Type 0
AreKept xs ys kept = (k i : ℕ) → k < length kept → slice_index_or kept k None ≡ Some i
    → (i < length xs) × (slice_index_or xs i 0 ≡ k) × (leader (same_pair xs ys) (length xs) i ≡ i)

-- the rows whose second number is below h have their leaders
pub record AreLedBelow (xs ys : List ℕ) (h : ℕ) (kept : List (Option ℕ))
    (leaders : List ℕ) : Type 0 where
  pub kept_are : AreKept xs ys kept
  pub count : length leaders ≡ length xs
  pub each : (j : ℕ) → j < length xs → slice_index_or ys j 0 < h
      → slice_index_or leaders j 0 ≡ leader (same_pair xs ys) (length xs) j
