-- Rows that are told apart by a test: which of n rows are the first of their kind, and the groups of the same rows.
use Rattle.std.specs.Prelude.{ℕ, Bool, not, List, filter, slice_index_or}
use Rattle.std.specs.List.{list_all, list_any, position_or_len}
use Rattle.tb_value.specs.Promise.Datum.{Datum, null}
use Rattle.tb_value.specs.Promise.Pairs.{row_numbers}
use Rattle.tb_value.specs.Promise.Same.{same}

-- the value of a row
abbrev pub row_value : List Datum → ℕ → Datum
row_value vs i = slice_index_or vs i null

-- two rows have the same value in each of the lists, Null the same as Null
abbrev pub same_rows : List (List Datum) → ℕ → ℕ → Bool
same_rows lists i j = list_all (λ vs. same (row_value vs i) (row_value vs j)) lists

-- whether no row before it is the same as a row
abbrev pub is_first : (ℕ → ℕ → Bool) → ℕ → Bool
is_first test i = not (list_any (λ j. test j i) (row_numbers i))

-- the rows of which that is so
abbrev pub first_rows : (ℕ → ℕ → Bool) → ℕ → List ℕ
first_rows test n = filter (is_first test) (row_numbers n)

-- the place of the group in which a row stands
abbrev pub group_of : (ℕ → ℕ → Bool) → ℕ → ℕ → ℕ
group_of test n j = position_or_len (λ i. test i j) (first_rows test n)
