use Rattle.std.proofs.Common.{option_map, map, ◌∙◌, sym, ap}
use Rattle.std.specs.Prelude.{is_some}
use Rattle.tb_tree.specs.View.{view}
use Rattle.tb_value.specs.SeeKind.{kind_of}
use Rattle.tb_json.specs.Promise.Lists.{each}
use Rattle.tb_request.specs.Lent.{run_view}
use Rattle.tb_request.specs.Promise.Written.{run_of}
use Rattle.tb_request.proofs.Parts.{all_seen, none_seen, run_seen}
use Rattle.tb_request.proofs.runs.runs_of.Goals as goal

pub returns-then-not-are_runs : goal.returns-then-not-are_runs
returns-then-not-are_runs c =
    let t = kind_of c.args.dtype.now in
    let tested = ap (λ vs. is_some (each (run_of t) (map view vs))) (sym c.deref.ensures.value) ∙ sym c.are_runs.ensures ∙ c.if-not-are_runs.true in
    none_seen (run_of t) (view c.args.value) c.in-Some.runs.items (ap (option_map (λ v. map view v.items)) (sym c.in-Some.is) ∙ c.in_ok-runs.ensures) tested

pub returns : goal.returns
returns c =
    let t = kind_of c.args.dtype.now in
    let tested = ap (λ vs. is_some (each (run_of t) (map view vs))) (sym c.deref.ensures.value) ∙ sym c.are_runs.ensures ∙ c.if-not-are_runs.false in
    all_seen (run_of t) run_view (run_seen t) (view c.args.value) c.in-Some.runs.items (ap (option_map (λ v. map view v.items)) (sym c.in-Some.is) ∙ c.in_ok-runs.ensures) tested
