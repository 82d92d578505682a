-- The rows of a group, and their values.
use Rattle.std.specs.Prelude.{◌≡◌, ◌==◌, ◌<◌, ◌≤◌, ℕ, List, filter, length, map, slice_index}
use Rattle.std.specs.List.{All}
use Rattle.tb_value.specs.Promise.Datum.{Datum}
use Rattle.tb_value.specs.Promise.Pairs.{row_numbers}
use Rattle.tb_value.specs.declared.limits.TheConstants.{MAX_ROWS}
use Rattle.tb_rows.specs.Promise.Rows.{row_value}
use Rattle.tb_rows.specs.declared.groups.Groups.{Groups}
use Rattle.tb_agg.specs.Promise.Aggregates.{aggregate}
use Rattle.tb_agg.specs.declared.table.Aggregate.{Aggregate}

-- of n rows, of which each has the number of its group, those of a group, ascending
abbrev pub rows_of : List ℕ → ℕ → ℕ → List ℕ
rows_of numbers n k = filter (λ i. slice_index numbers i == k) (row_numbers n)

-- the same of rows that are named, and those of each group
abbrev pub group_rows : (ℕ → ℕ) → Groups → ℕ → List ℕ
group_rows name g k = map name (rows_of g.numbers.items (length g.numbers.items) k)

abbrev pub rows_by_group : (ℕ → ℕ) → Groups → List (List ℕ)
rows_by_group name g = map (group_rows name g) (row_numbers (length g.firsts.items))

-- the values of the group, in the order of the rows
abbrev pub values_of : List ℕ → List Datum → ℕ → List Datum
values_of numbers vs k = map (row_value vs) (rows_of numbers (length vs) k)

-- one value for each group
abbrev pub aggregates : Aggregate → Groups → List Datum → List Datum
aggregates agg g vs =
    map (λ k. aggregate agg (values_of g.numbers.items vs k)) (row_numbers (length g.firsts.items))

-- each of n rows has the number of a group
pub record AreGroupsOf (n : ℕ) (g : Groups) : Type 0 where
  pub each : length g.numbers.items ≡ n
  pub within : All (λ k. k < length g.firsts.items) g.numbers.items
  pub few : length g.firsts.items ≤ MAX_ROWS
