-- What is made of the rows of a part: their groups, and what is kept of them for each aggregate.
use Rattle.std.specs.Prelude.{ℕ, ◌+◌, ◌-◌, ◌<◌, ◌≤◌, ◌==◌, ◌||◌, Bool, List, drop, length, map, nat_lt, take, slice_index_or, Option, Some, None, if◌then◌else◌}
use Rattle.std.specs.Borrow.{Bor}
use Rattle.tb_value.specs.Promise.Pairs.{row_numbers}
use Rattle.tb_chunk.specs.Promise.Col.{Col, values}
use Rattle.tb_rows.specs.InGroups.{firsts_in, groups_in}
use Rattle.tb_rows.specs.Promise.Rows.{same_rows}
use Rattle.tb_rows.specs.declared.groups.Groups.{Groups}
use Rattle.tb_agg.specs.Grouped.{rows_of}
use Rattle.tb_agg.specs.Kept.{KeptView, kept_of, shown_kept}
use Rattle.tb_group.specs.Asked.{Asked}
use Rattle.tb_group.specs.Order.{row_in}
use Rattle.tb_group.specs.declared.part.PartGroups.{PartGroups}

-- the test of rows by columns that are lent
abbrev pub lent_test : List (Bor Col) → ℕ → ℕ → Bool
lent_test by = same_rows (map (λ (c : Bor Col). values c.now) by)

-- of listed rows, those of each group of their places
abbrev pub rows_in_groups : List ℕ → Groups → List (List ℕ)
rows_in_groups rows g = map (λ k. map (row_in rows) (rows_of g.numbers.items (length rows) k))
    (row_numbers (length g.firsts.items))

-- what is kept of groups of rows for each aggregate
abbrev pub kept_for : List Asked → List (List ℕ) → List KeptView
kept_for asked groups = map (λ (a : Asked). kept_of a.0.agg a.1.values groups) asked

-- what a part gives: the first row of each group, and what is kept of the groups for each aggregate
pub record PartView : Type 0 where
  pub firsts : List ℕ
  pub kept : List KeptView

abbrev pub shown_part : PartGroups → PartView
shown_part p = record { firsts = p.firsts.items; kept = map shown_kept p.kept.items }

-- what there is to give of these rows
abbrev pub part_view : (ℕ → ℕ → Bool) → List Asked → List ℕ → PartView
part_view test asked rows = record {
  firsts = firsts_in test rows;
  kept = kept_for asked (groups_in test rows);
}

-- whether a part, by its number and its rows, has work: the first has, so that one has, and each that has rows
abbrev pub has_work : ℕ → List ℕ → Bool
has_work p rows = (p == 0) || nat_lt 0 (length rows)

-- what a part gives where it has work
abbrev pub work_view : (ℕ → ℕ → Bool) → List Asked → ℕ → List ℕ → Option PartView
work_view test asked p rows = (if has_work p rows then Some (part_view test asked rows) else None)

-- how many groups a part has
abbrev pub group_count : Option PartGroups → ℕ
group_count None = 0
group_count (Some p) = length p.firsts.items

-- the rows of a part, of which the places are given
abbrev pub rows_of_part : List ℕ → List ℕ → ℕ → List ℕ
rows_of_part idxs starts p = take (slice_index_or starts (p + 1) 0 - slice_index_or starts p 0)
    (drop (slice_index_or starts p 0) idxs)

-- a part has a start and an end within the rows
pub record IsPart (starts idxs : List ℕ) (p : ℕ) : Type 0 where
  pub there : p + 1 < length starts
  pub ordered : slice_index_or starts p 0 ≤ slice_index_or starts (p + 1) 0
  pub within : slice_index_or starts (p + 1) 0 ≤ length idxs
