-- What is kept of the groups of all rows of a column is what its aggregates are made of.
use Rattle.std.proofs.Common.{◌≡◌, ◌∙◌, ◌<◌, ◌≤◌, ◌+◌, ℕ, ℤ, Bool, List, [], ◌∷◌, length, map, not, Option, refl, sym, ap, subst, arith}
use Rattle.std.specs.List.{All}
use Rattle.std.specs.Prelude.{IsSome, IsSomeAnd, slice_index, slice_index_or, ◌==◌}
use Rattle.std.proofs.lemmas.List.{length-map}
use Rattle.std.proofs.lemmas.List.Elements.{All-filter, All-map, All-weaker}
use Rattle.std.proofs.lemmas.List.FromFn.{length-map-range_with_len}
use Rattle.tb_value.proofs.Loops.{map-map}
use Rattle.tb_value.specs.Promise.Datum.{Datum}
use Rattle.tb_value.specs.Promise.Kind.{Kind}
use Rattle.tb_value.specs.Promise.Names.{Name}
use Rattle.tb_value.specs.Promise.Pairs.{row_numbers}
use Rattle.tb_value.specs.Promise.Refusals.{when}
use Rattle.tb_value.specs.declared.error.ComputeCause.TheVariants.{SumRange}
use Rattle.tb_value.specs.declared.error.PolarsError.TheVariants.{ComputeError}
use Rattle.tb_value.specs.declared.limits.TheConstants.{MAX_ROWS}
use Rattle.tb_value.specs.declared.sorted.IsSorted.TheVariants.{Not}
use Rattle.tb_value.proofs.RowNumbers.{rows_below}
use Rattle.tb_chunk.specs.Made.{IsOf}
use Rattle.tb_chunk.specs.Promise.Col.{Col, values}
use Rattle.tb_rows.specs.Promise.Rows.{row_value}
use Rattle.tb_rows.specs.declared.groups.Groups.{Groups}
use Rattle.tb_agg.specs.Grouped.{aggregates, group_rows, rows_by_group, rows_of, AreGroupsOf}
use Rattle.tb_agg.specs.Kept.{KeptView, kept_fits, kept_kind, kept_of, kept_values, IsKeptColumn, IsKeptFor}
use Rattle.tb_agg.specs.Outcome.{range_cause, totals, IsAggregated}
use Rattle.tb_agg.specs.Promise.Aggregates.{aggregate, result_kind, sum_kind, total}
use Rattle.tb_agg.specs.Promise.Outcome.{are_in_range}
use Rattle.tb_agg.specs.declared.table.Aggregate.{Aggregate}
use Rattle.tb_agg.specs.declared.table.Aggregate.TheVariants.{First, Last, Sum, Min, Max, Count}
use Rattle.tb_agg.proofs.Keeping.{kept_for, kind_is, values_are}
use Rattle.tb_agg.proofs.Steps.{rows_few}

named_self : (rows : List ℕ) → map (λ j. 0 + j) rows ≡ rows
named_self [] = refl
named_self (r ∷ rs) = let here : 0 + r ≡ r = omega arith in λ t. here t ∷ named_self rs t

module _ (agg : Aggregate) (g : Groups) (c : Col) (are : AreGroupsOf (length (values c)) g) where
  abbrev vs : List Datum
  vs = values c

  abbrev numbers : List ℕ
  numbers = g.numbers.items

  abbrev ks : List ℕ
  ks = row_numbers (length g.firsts.items)

  abbrev own : List (List ℕ)
  own = rows_by_group (λ j. 0 + j) g

  own_is : own ≡ map (λ k. rows_of numbers (length vs) k) ks
  own_is = λ t. map (λ k. (named_self (rows_of numbers (length numbers) k) ∙ ap (λ (m : ℕ). rows_of numbers m k) are.each) t) ks

  own_low : All (λ rows. All (λ r. r < length vs) rows) own
  own_low = All-map (λ rows. All (λ r. r < length vs) rows) (group_rows (λ j. 0 + j) g) ks (λ i d h.
      let k : ℕ = slice_index_or ks i d in
      All-map (λ r. r < length vs) (λ j. 0 + j) (rows_of numbers (length numbers) k)
      (All-filter (λ j. slice_index numbers j == k) (λ j. 0 + j < length vs) (row_numbers (length numbers))
      (All-weaker (λ j. j < length numbers) (λ j. 0 + j < length vs) (λ j low. omega (arith, low, are.each)) (row_numbers (length numbers)) (rows_below (length numbers)))))

  own_short : length vs ≤ MAX_ROWS → All (λ rows. length rows ≤ MAX_ROWS) own
  own_short few = All-map (λ (rows : List ℕ). length rows ≤ MAX_ROWS) (group_rows (λ j. 0 + j) g) ks (λ i d h.
      let k : ℕ = slice_index_or ks i d in
      omega (arith, length-map (rows_of numbers (length numbers) k) (λ j. 0 + j), rows_few numbers (length numbers) k, few, are.each))

  aggregates_are : map (λ rows. aggregate agg (map (row_value vs) rows)) own ≡ aggregates agg g vs
  aggregates_are =
      ap (map (λ rows. aggregate agg (map (row_value vs) rows))) own_is
      ∙ map-map (λ rows. aggregate agg (map (row_value vs) rows)) (λ k. rows_of numbers (length vs) k) ks

  totals_are : map (λ rows. total (map (row_value vs) rows)) own ≡ totals g vs
  totals_are =
      ap (map (λ rows. total (map (row_value vs) rows))) own_is
      ∙ map-map (λ rows. total (map (row_value vs) rows)) (λ k. rows_of numbers (length vs) k) ks

  own_cause : (a : Aggregate) → when (not (kept_fits c.kind (kept_of a vs own))) (ComputeError (SumRange c.name)) ≡ range_cause a g c
  own_cause First = refl
  own_cause Last = refl
  own_cause Min = refl
  own_cause Max = refl
  own_cause Count = refl
  own_cause Sum = ap (λ (zs : List ℤ). when (not (are_in_range (sum_kind c.kind) zs)) (ComputeError (SumRange c.name))) totals_are

  -- what is kept of them
  module _ (k : KeptView) (is : k ≡ kept_of agg vs own) where
    pub own_kept : length vs ≤ MAX_ROWS → IsKeptFor (length vs) k
    own_kept few = subst (IsKeptFor (length vs)) (sym is)
        (kept_for vs (length vs) own own_low (own_short few) (omega (arith, length-map-range_with_len (group_rows (λ j. 0 + j) g) 0 (length g.firsts.items), are.few)) agg)

    pub own_cause_by : (b : Bool) → kept_fits c.kind k ≡ b → range_cause agg g c ≡ when (not b) (ComputeError (SumRange c.name))
    own_cause_by b e =
        sym (own_cause agg)
        ∙ ap (λ (v : KeptView). when (not (kept_fits c.kind v)) (ComputeError (SumRange c.name))) (sym is)
        ∙ ap (λ (x : Bool). when (not x) (ComputeError (SumRange c.name))) e

    module _ (taken : IsSome (result_kind agg c.kind)) where
      own_kind : kept_kind c.kind k ≡ result_kind agg c.kind
      own_kind = ap (kept_kind c.kind) is ∙ kind_is agg c.kind vs own taken

      pub own_taken : IsSome (kept_kind c.kind k)
      own_taken = subst IsSome (sym own_kind) taken

      pub own_column : (name : Name) (s : Col) → name ≡ c.name → IsKeptColumn name c k s → IsAggregated agg g c s
      own_column name s same h =
          subst (λ (l : List Datum). IsSomeAnd (result_kind agg c.kind) (λ t. IsOf c.name t (l ∷ []) Not s)) (ap (kept_values vs) is ∙ values_are vs agg own ∙ aggregates_are)
          (subst (λ (o : Option Kind). IsSomeAnd o (λ t. IsOf c.name t (kept_values vs k ∷ []) Not s)) own_kind
          (subst (λ (n : Name). IsKeptColumn n c k s) same h))
