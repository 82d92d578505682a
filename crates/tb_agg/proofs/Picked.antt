-- The rows that are picked have the values of the aggregates.
use Rattle.std.proofs.Common.{◌≡◌, ◌∙◌, ◌-◌, ℕ, suc, Bool, true, false, cond, List, [], ◌∷◌, ◌++◌, get_or, length, map, fold, Option, Some, None, refl, sym, ap, arith}
use Rattle.std.proofs.lemmas.List.Sums.{fold-append}
use Rattle.tb_value.specs.Promise.Datum.{Datum, null}
use Rattle.tb_chunk.specs.Rows.{value_or_null}
use Rattle.tb_rows.specs.Promise.Rows.{row_value}
use Rattle.tb_agg.specs.Promise.Aggregates.{aggregate, beats}
use Rattle.tb_agg.specs.Picking.{aggregate_of, next_pick, picked_row}
use Rattle.tb_agg.specs.declared.picks.Pick.{Pick}
use Rattle.tb_agg.specs.declared.picks.Pick.TheVariants.{FirstRow, LastRow, LeastValue, GreatestValue}

module _ (vs : List Datum) where
  first_stays : (row : ℕ) (rows : List ℕ) → fold (next_pick FirstRow vs) (Some row) rows ≡ Some row
  first_stays row [] = refl
  first_stays row (r ∷ rs) = first_stays row rs

  last_stands : (row : ℕ) (rows : List ℕ) → value_or_null vs (fold (next_pick LastRow vs) (Some row) rows) ≡ get_or (row_value vs row ∷ map (row_value vs) rows) (length (map (row_value vs) rows)) null
  last_stands row [] = refl
  last_stands row (r ∷ rs) = last_stands r rs

  abbrev better : Bool → Datum → Datum → Datum
  better greatest best v = cond (beats greatest best v) v best

  abbrev picks : Bool → Option ℕ → ℕ → Option ℕ
  picks greatest best row = cond (beats greatest (value_or_null vs best) (row_value vs row)) (Some row) best

  best_stands : (greatest : Bool) (best : Option ℕ) (rows : List ℕ) → value_or_null vs (fold (picks greatest) best rows) ≡ fold (better greatest) (value_or_null vs best) (map (row_value vs) rows)
  best_stands greatest best [] = refl
  best_stands greatest best (r ∷ rs) =
      best_stands greatest (picks greatest best r) rs
      ∙ ap (λ (v : Datum). fold (better greatest) v (map (row_value vs) rs)) (by (beats greatest (value_or_null vs best) (row_value vs r)))
    where
      by : (b : Bool) → value_or_null vs (cond b (Some r) best) ≡ cond b (row_value vs r) (value_or_null vs best)
      by true = refl
      by false = refl

  one_less : (n : ℕ) → suc n - 1 ≡ n
  one_less n = omega arith

  pub pick_is : (pick : Pick) (rows : List ℕ) → value_or_null vs (picked_row pick vs rows) ≡ aggregate (aggregate_of pick) (map (row_value vs) rows)
  pick_is FirstRow [] = refl
  pick_is FirstRow (r ∷ rs) = ap (value_or_null vs) (first_stays r rs)
  pick_is LastRow [] = refl
  pick_is LastRow (r ∷ rs) =
      last_stands r rs
      ∙ ap (λ (n : ℕ). get_or (row_value vs r ∷ map (row_value vs) rs) n null) (sym (one_less (length (map (row_value vs) rs))))
  pick_is LeastValue rows = best_stands false None rows
  pick_is GreatestValue rows = best_stands true None rows

  pub all_picked : (pick : Pick) (rows : ℕ → List ℕ) (ks : List ℕ) → map (value_or_null vs) (map (λ k. picked_row pick vs (rows k)) ks) ≡ map (λ k. aggregate (aggregate_of pick) (map (row_value vs) (rows k))) ks
  all_picked pick rows [] = refl
  all_picked pick rows (k ∷ ks) =
      ap (λ (v : Datum). v ∷ map (value_or_null vs) (map (λ j. picked_row pick vs (rows j)) ks)) (pick_is pick (rows k))
      ∙ ap (λ (l : List Datum). aggregate (aggregate_of pick) (map (row_value vs) (rows k)) ∷ l) (all_picked pick rows ks)

  pub pick_more : (pick : Pick) (rows : List ℕ) (n : ℕ) (best : Option ℕ) → best ≡ picked_row pick vs rows → next_pick pick vs best n ≡ picked_row pick vs (rows ++ n ∷ [])
  pick_more pick rows n best is = ap (λ (o : Option ℕ). next_pick pick vs o n) is ∙ sym (fold-append (next_pick pick vs) None rows (n ∷ []))
