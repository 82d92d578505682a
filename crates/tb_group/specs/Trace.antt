-- Into which parts rows fall.
use Rattle.std.specs.Prelude.{ℕ, ◌+◌, ◌-◌, Bool, List, filter, length, map, slice_index_or}
use Rattle.tb_value.specs.Promise.Pairs.{row_numbers}
use Rattle.tb_rows.specs.InGroups.{firsts_in}
use Rattle.tb_build.specs.Promise.Plan.{part_rows, part_sizes}
use Rattle.tb_group.specs.Asked.{Asked}
use Rattle.tb_group.specs.Parts.{PartView, has_work, part_view}
use Rattle.tb_group.specs.Promise.Keys.{GroupedView}

-- how long the pieces are that begin at these places
abbrev pub lengths_between : List ℕ → List ℕ
lengths_between starts = map (λ p. slice_index_or starts (p + 1) 0 - slice_index_or starts p 0)
    (row_numbers (length starts - 1))

-- the parts of rows with these codes that have work
abbrev pub work_parts : List ℕ → ℕ → List ℕ
work_parts codes n = filter (λ p. has_work p (part_rows codes n p)) (row_numbers n)

-- what is made of each of these
abbrev pub part_views : (ℕ → ℕ → Bool) → List Asked → List ℕ → ℕ → List PartView
part_views test asked codes n =
    map (λ p. part_view test asked (part_rows codes n p)) (work_parts codes n)

-- how many rows the parts have, and how many groups by a test
abbrev pub trace_by : (ℕ → ℕ → Bool) → List ℕ → ℕ → GroupedView
trace_by test codes n = record {
  parts = n;
  sizes = part_sizes codes n;
  groups = map (λ p. length (firsts_in test (part_rows codes n p))) (row_numbers n);
}
