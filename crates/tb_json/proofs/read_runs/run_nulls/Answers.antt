use Rattle.std.proofs.Common.{◌≡◌, ◌∙◌, ℕ, sym, ap, cond, Some, None, map, replicate}
use Rattle.tb_value.specs.Promise.Datum.{null}
use Rattle.tb_chunk.specs.RunLayout.{total_of}
use Rattle.tb_json.specs.Runs.{run_view}
use Rattle.tb_json.proofs.RunWalks.{nulls_in_runs}
use Rattle.tb_json.proofs.read_runs.run_nulls.Goals as goal

pub returns-then-are_null_runs : goal.returns-then-are_null_runs
returns-then-are_null_runs c =
    let rs = map run_view c.args.runs.now in
    ap (λ n. Some (replicate n null)) c.requires
    ∙ ap (λ b. cond b (Some (replicate (total_of rs) null)) None) (sym c.if-are_null_runs.true ∙ c.are_null_runs.ensures)
    ∙ nulls_in_runs rs

pub returns-else-are_null_runs : goal.returns-else-are_null_runs
returns-else-are_null_runs c =
    let rs = map run_view c.args.runs.now in
    ap (λ b. cond b (Some (replicate (total_of rs) null)) None) (sym c.if-are_null_runs.false ∙ c.are_null_runs.ensures)
    ∙ nulls_in_runs rs
