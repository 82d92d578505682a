-- What the parts give for a request, as it is put together.
use Rattle.std.proofs.Common.{◌≡◌, ◌∙◌, ◌<◌, ◌≤◌, ◌++◌, ℕ, List, length, map, sym, ap, subst, arith}
use Rattle.std.specs.Borrow.{Bor}
use Rattle.std.specs.List.{All}
use Rattle.std.proofs.lemmas.List.{length-map}
use Rattle.tb_value.specs.Promise.Pairs.{row_numbers}
use Rattle.tb_value.specs.Promise.Refusals.{first_cause}
use Rattle.tb_value.specs.declared.limits.TheConstants.{MAX_ROWS}
use Rattle.tb_chunk.specs.Changed.{taken_rows}
use Rattle.tb_chunk.specs.Lent.{lent_columns}
use Rattle.tb_chunk.specs.Promise.Col.{Col, values}
use Rattle.tb_frame.specs.Promise.Table.{table_of}
use Rattle.tb_rowkey.specs.Promise.Columns.{row_count}
use Rattle.tb_group.specs.Asked.{asked_list}
use Rattle.tb_group.specs.Codes.{codes_by}
use Rattle.tb_group.specs.Order.{row_in, IsOrder}
use Rattle.tb_group.specs.Parts.{PartView, lent_test, shown_part}
use Rattle.tb_group.specs.Promise.Group.{group_firsts, group_table}
use Rattle.tb_group.specs.Promise.Refusal.{first_agg_cause, range_cause}
use Rattle.tb_group.specs.Promise.Request.{Request}
use Rattle.tb_group.specs.Served.{AreServed, Wanted}
use Rattle.tb_group.specs.Trace.{part_views}
use Rattle.tb_group.specs.Whole.{all_firsts, cause_at, placed_at, AreWholeAt}
use Rattle.tb_group.specs.declared.part.PartGroups.{PartGroups}
use Rattle.tb_group.proofs.Answered.{are_whole, causes_are, firsts_few, firsts_low, rows_are, table_is}
use Rattle.tb_group.proofs.Needed.{firsts_within, rows_within}

module _ (q : Request) (w : Wanted) (s : AreServed q w) (parts : ℕ) (some : 1 ≤ parts) (given : List PartGroups)
    (are : map shown_part given ≡ part_views (lent_test w.by) (asked_list w.made) (codes_by (table_of (lent_columns w.by)) (row_count (lent_columns w.by))) parts) where
  abbrev views : List PartView
  views = map shown_part given

  -- the first rows of all parts
  module _ (firsts : List ℕ) (is : firsts ≡ all_firsts views) where
    pub few_firsts : w.height ≤ MAX_ROWS → length firsts ≤ MAX_ROWS
    few_firsts few = omega (arith, ap length is, firsts_few q w s parts some views are, few)

    pub low_firsts : All (λ r. r < w.height) firsts
    low_firsts = subst (λ (l : List ℕ). All (λ r. r < w.height) l) (sym is) (firsts_low q w s parts some views are)

    module _ (places : List ℕ) (order : IsOrder w.height firsts places) where
      ordered : IsOrder w.height (all_firsts views) places
      ordered = subst (λ (l : List ℕ). IsOrder w.height l places) is order

      pub whole : w.height ≤ MAX_ROWS → AreWholeAt (asked_list w.made) w.seats views places
      whole few = are_whole q w s parts some views are places ordered few

      pub causes : first_cause (map (cause_at (asked_list w.asked) (asked_list w.made) w.seats views places) (row_numbers (length w.asked))) ≡ first_agg_cause q (range_cause q)
      causes = causes_are q w s parts some views are places ordered

      -- the first row of each group
      module _ (rows : List ℕ) (at : rows ≡ map (row_in firsts) places) where
        by_views : rows ≡ map (row_in (all_firsts views)) places
        by_views = at ∙ ap (λ (l : List ℕ). map (row_in l) places) is

        first_rows_are : rows ≡ group_firsts q
        first_rows_are = by_views ∙ rows_are q w s parts some views are places ordered

        pub rows_in_columns : All (λ (c : Bor Col). All (λ r. r < length (values c.now)) rows) w.by
        rows_in_columns = rows_within q w s rows (subst (λ (l : List ℕ). All (λ r. r < w.height) l) (sym first_rows_are) (firsts_within q w s))

        pub few_rows : w.height ≤ MAX_ROWS → length rows ≤ MAX_ROWS
        few_rows few = omega (arith, ap length at, length-map places (row_in firsts), order.few, few)

        pub answer_is : (made : List Col) → table_of made ≡ map (placed_at (asked_list w.asked) (asked_list w.made) w.seats views places) (row_numbers (length w.asked))
            → table_of (map (taken_rows rows) (lent_columns w.by) ++ made) ≡ group_table q
        answer_is made are_made = table_is q w s parts some views are places ordered rows made by_views are_made
