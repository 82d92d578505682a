-- Facts on the views of runs of values.
use Rattle.std.proofs.Common.{arith, ◌≡◌, ◌∙◌, ◌<◌, ◌+◌, ◌++◌, ◌∷◌, [], ℕ, zero, suc, List, Some, None, length, get_or, take, refl, sym, ap}
use Rattle.std.proofs.lemmas.List.{map_more, map_push}
use Rattle.std.proofs.lemmas.List.Sums.{fold_push}
use Rattle.tb_value.specs.Promise.Datum.{Datum}
use Rattle.tb_value.specs.See.{datum}
use Rattle.tb_value.specs.Promise.Texts.{text_of}
use Rattle.tb_value.specs.declared.any_value.AnyValue.{AnyValue}
use Rattle.tb_view.specs.Layout.{Building, building_of, with_nulls, with_rows}
use Rattle.tb_view.specs.RunViews.{data_runs, run_building, text_runs, with_run}

-- a run of some rows puts its text, and one without a text puts none
pub run_of_text : (b : Building) (t : List ℕ) (n : ℕ) → 0 < n → with_run b (Some t, n) ≡ with_rows b t n
run_of_text b t zero some = absurd (omega arith)
run_of_text b t (suc n) some = refl

pub run_of_none : (b : Building) (n : ℕ) → 0 < n → with_run b (None, n) ≡ with_nulls b n
run_of_none b zero some = absurd (omega arith)
run_of_none b (suc n) some = refl

-- the runs so far with the next one
pub data_more : (rs : List (AnyValue × ℕ)) (n : ℕ) (r : AnyValue × ℕ) → n < length rs → r ≡ get_or rs n r → data_runs (take (n + 1) rs) ≡ data_runs (take n rs) ++ (datum r.0, r.1) ∷ []
data_more rs n r low is = map_more (λ (s : AnyValue × ℕ). (datum s.0, s.1)) rs n r low ∙ ap (λ (s : AnyValue × ℕ). data_runs (take n rs) ++ (datum s.0, s.1) ∷ []) (sym is)

pub building_more : (rs : List (AnyValue × ℕ)) (n : ℕ) (r : AnyValue × ℕ) → n < length rs → r ≡ get_or rs n r → with_run (run_building (text_runs (data_runs (take n rs)))) (text_of (datum r.0), r.1) ≡ run_building (text_runs (data_runs (take (n + 1) rs)))
building_more rs n r low is =
    let t : text_runs (data_runs (take (n + 1) rs)) ≡ text_runs (data_runs (take n rs)) ++ (text_of (datum r.0), r.1) ∷ [] = ap text_runs (data_more rs n r low is) ∙ map_push (λ (s : Datum × ℕ). (text_of s.0, s.1)) (data_runs (take n rs)) (datum r.0, r.1) in
    sym (ap run_building t ∙ fold_push with_run (building_of []) (text_runs (data_runs (take n rs))) (text_of (datum r.0), r.1))
