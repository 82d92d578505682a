-- Walks over runs, a run at a time.
use Rattle.std.proofs.Common.{◌≡◌, ◌∙◌, ℕ, ◌+◌, ◌<◌, ◌≤◌, List, [], ◌∷◌, ◌++◌, map, length, get_or, drop, replicate, Bool, true, false, cond, ◌&&◌, Option, Some, None, option_map, option_and_then, refl, sym, ap, append_assoc, append-nil}
use Rattle.std.specs.Prelude.{is_some}
use Rattle.std.specs.List.{list_all}
use Rattle.std.proofs.lemmas.List.{at_drop_all, at_drop_more, get_or-map, length-map, replicate-append-replicate}
use Rattle.std.proofs.lemmas.List.Sums.{sum_by-cons}
use Rattle.serde_json.specs.Data.{Data}
use Rattle.serde_json.specs.Find.{as_null}
use Rattle.tb_tree.specs.declared.value.Value.{Value}
use Rattle.tb_value.specs.Promise.Datum as value
use Rattle.tb_value.specs.Promise.Datum.{Datum}
use Rattle.tb_value.specs.Promise.Kind as kind
use Rattle.tb_value.specs.Promise.Kind.{Kind}
use Rattle.tb_chunk.specs.RunLayout.{expansion, total_of}
use Rattle.tb_json.specs.Promise.Cells.{cell_in, run_in}
use Rattle.tb_json.specs.Promise.Lists.{each}
use Rattle.tb_json.specs.Runs.{run_view, values_in_runs}
use Rattle.tb_json.proofs.ArrayWalks.{only_null}

-- ---- a run, and those behind it

behind : (n : ℕ) (v : Datum) (o : Option (List (Datum × ℕ))) → option_map expansion (option_map (λ rs. (v, n) ∷ rs) o) ≡ option_map (λ vs. replicate n v ++ vs) (option_map expansion o)
behind n v None = refl
behind n v (Some rs) = refl

-- the values of runs, by that of the first one
abbrev by_first : Kind → ℕ → List (Data × ℕ) → Option Datum → Option (List Datum)
by_first t n rest o = option_map expansion (option_and_then (λ r. option_map (λ rs. r ∷ rs) (each (run_in t) rest)) (option_map (λ v. (v, n)) o))

more_values : (t : Kind) (d : Data) (n : ℕ) (rest : List (Data × ℕ)) (v : Datum) → cell_in t d ≡ Some v → values_in_runs t ((d, n) ∷ rest) ≡ option_map (λ vs. replicate n v ++ vs) (values_in_runs t rest)
more_values t d n rest v e = ap (by_first t n rest) e ∙ behind n v (each (run_in t) rest)

no_values : (t : Kind) (d : Data) (n : ℕ) (rest : List (Data × ℕ)) → cell_in t d ≡ None → values_in_runs t ((d, n) ∷ rest) ≡ None
no_values t d n rest e = ap (by_first t n rest) e

-- ---- a walk over runs, the first i of which have the values `done`

abbrev pub RunsWalk : Kind → List Value → List Datum → ℕ → Type 0
RunsWalk t runs done i = values_in_runs t (map run_view runs) ≡ option_map (λ vs. done ++ vs) (values_in_runs t (drop i (map run_view runs)))

unmoved : (o : Option (List Datum)) → o ≡ option_map (λ vs. [] ++ vs) o
unmoved None = refl
unmoved (Some vs) = refl

moved : (done more : List Datum) (o : Option (List Datum)) → option_map (λ vs. done ++ vs) (option_map (λ vs. more ++ vs) o) ≡ option_map (λ vs. (done ++ more) ++ vs) o
moved done more None = refl
moved done more (Some vs) = ap Some (sym (append_assoc done more vs))

-- the next run
next_is : (runs : List Value) (i : ℕ) (run : Value) (d : Data) (n : ℕ) → i < length runs → run ≡ get_or runs i run → d ≡ (run_view run).0 → n ≡ (run_view run).1 → drop i (map run_view runs) ≡ (d, n) ∷ drop (i + 1) (map run_view runs)
next_is runs i run d n within is value times =
    at_drop_more (λ (rs : List (Data × ℕ)). rs) (map run_view runs) i (run_view run) (rw length-map within)
    ∙ ap (λ q. q ∷ drop (i + 1) (map run_view runs)) (get_or-map run_view runs i run (run_view run) within ∙ ap run_view (sym is) ∙ (λ j. (sym value j, sym times j)))

module _ (t : Kind) (runs : List Value) where
  pub RunsWalk-start : RunsWalk t runs [] 0
  RunsWalk-start = unmoved (values_in_runs t (map run_view runs))

  pub RunsWalk-more : (done : List Datum) (i : ℕ) (run : Value) (d : Data) (n : ℕ) (v : Datum) → i < length runs → run ≡ get_or runs i run → d ≡ (run_view run).0 → n ≡ (run_view run).1 → cell_in t d ≡ Some v → RunsWalk t runs done i → RunsWalk t runs (done ++ replicate n v) (i + 1)
  RunsWalk-more done i run d n v within is value times e so_far =
      so_far
      ∙ ap (λ rs. option_map (λ vs. done ++ vs) (values_in_runs t rs)) (next_is runs i run d n within is value times)
      ∙ ap (option_map (λ vs. done ++ vs)) (more_values t d n (drop (i + 1) (map run_view runs)) v e)
      ∙ moved done (replicate n v) (values_in_runs t (drop (i + 1) (map run_view runs)))

  pub RunsWalk-fails : (done : List Datum) (i : ℕ) (run : Value) (d : Data) (n : ℕ) → i < length runs → run ≡ get_or runs i run → d ≡ (run_view run).0 → n ≡ (run_view run).1 → cell_in t d ≡ None → RunsWalk t runs done i → None ≡ values_in_runs t (map run_view runs)
  RunsWalk-fails done i run d n within is value times e so_far =
      sym (so_far
      ∙ ap (λ rs. option_map (λ vs. done ++ vs) (values_in_runs t rs)) (next_is runs i run d n within is value times)
      ∙ ap (option_map (λ vs. done ++ vs)) (no_values t d n (drop (i + 1) (map run_view runs)) e))

  pub RunsWalk-all : (done : List Datum) (i : ℕ) → length runs ≤ i → RunsWalk t runs done i → Some done ≡ values_in_runs t (map run_view runs)
  RunsWalk-all done i past so_far =
      sym (so_far
      ∙ ap (option_map (λ vs. done ++ vs)) (at_drop_all (values_in_runs t) (map run_view runs) i (rw length-map past))
      ∙ ap Some (append-nil done))

-- ---- runs of nulls

abbrev pub are_null : List (Data × ℕ) → Bool
are_null rs = list_all (λ (r : Data × ℕ). is_some (as_null r.0)) rs

-- the test of the runs that are left, by that of the next one
pub nulls_next : (runs : List Value) (i : ℕ) (run : Value) (d : Data) (b : Bool) → i < length runs → run ≡ get_or runs i run → d ≡ (run_view run).0 → b ≡ is_some (as_null d) → are_null (map run_view (drop i runs)) ≡ b && are_null (map run_view (drop (i + 1) runs))
nulls_next runs i run d b within is value null =
    at_drop_more (λ vs. are_null (map run_view vs)) runs i run within
    ∙ ap (λ v. is_some (as_null (run_view v).0) && are_null (map run_view (drop (i + 1) runs))) (sym is)
    ∙ ap (λ c. c && are_null (map run_view (drop (i + 1) runs))) (sym (null ∙ ap (λ e. is_some (as_null e)) value))

nulls_more : (b all : Bool) (n m : ℕ) (o : Option Datum) (r : Option (List (Datum × ℕ))) → o ≡ cond b (Some value.null) None → cond all (Some (replicate m value.null)) None ≡ option_map expansion r
    → cond (b && all) (Some (replicate (n + m) value.null)) None ≡ option_map expansion (option_and_then (λ p. option_map (λ ps. p ∷ ps) r) (option_map (λ v. (v, n)) o))
nulls_more false all n m o r e rest = sym (ap (λ q. option_map expansion (option_and_then (λ p. option_map (λ ps. p ∷ ps) r) (option_map (λ v. (v, n)) q))) e)
nulls_more true all n m o r e rest =
    with_all all
    ∙ ap (option_map (λ vs. replicate n value.null ++ vs)) rest
    ∙ sym (behind n value.null r)
    ∙ sym (ap (λ q. option_map expansion (option_and_then (λ p. option_map (λ ps. p ∷ ps) r) (option_map (λ v. (v, n)) q))) e)
  where
    with_all : (all : Bool) → cond all (Some (replicate (n + m) value.null)) None ≡ option_map (λ vs. replicate n value.null ++ vs) (cond all (Some (replicate m value.null)) None)
    with_all true = ap Some (sym (replicate-append-replicate n m value.null))
    with_all false = refl

-- as many nulls as the counts say, where each value is null
pub nulls_in_runs : (rs : List (Data × ℕ)) → cond (are_null rs) (Some (replicate (total_of rs) value.null)) None ≡ values_in_runs kind.null rs
nulls_in_runs [] = refl
nulls_in_runs (r ∷ rs) =
    ap (λ n. cond (are_null (r ∷ rs)) (Some (replicate n value.null)) None) (sum_by-cons (λ (q : Data × ℕ). q.1) r rs)
    ∙ nulls_more (is_some (as_null r.0)) (are_null rs) r.1 (total_of rs) (cell_in kind.null r.0) (each (run_in kind.null) rs) (only_null r.0) (nulls_in_runs rs)

-- ---- the only chunk

fused : (o : Option (List (Datum × ℕ))) → option_map (λ vs. vs ∷ []) (option_map expansion o) ≡ option_map (λ vs. expansion vs ∷ []) o
fused None = refl
fused (Some vs) = refl

pub one_chunk : (o : Option (List (Datum × ℕ))) (values : Option (List Datum)) → values ≡ option_map expansion o → option_map (λ vs. vs ∷ []) values ≡ option_map (λ vs. expansion vs ∷ []) o
one_chunk o values e = ap (option_map (λ vs. vs ∷ [])) e ∙ fused o
