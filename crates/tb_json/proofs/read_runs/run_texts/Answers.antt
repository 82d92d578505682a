use Rattle.std.proofs.Common.{◌∙◌, Some, map, option_map, sym, ap, arith}
use Rattle.tb_value.specs.Promise.Datum.{string}
use Rattle.tb_value.specs.Promise.Kind as kind
use Rattle.tb_chunk.specs.Chunk.{or_null}
use Rattle.tb_json.proofs.Pushed.{rows_shown}
use Rattle.tb_json.proofs.RunWalks.{RunsWalk-start, RunsWalk-more, RunsWalk-fails, RunsWalk-all}
use Rattle.tb_json.proofs.read_runs.run_texts.Goals as goal

pub loop-run-init : goal.loop-run-init
loop-run-init c = rw (ap (λ b. b.rows) c.in_ok-builder.ensures) (RunsWalk-start kind.string c.args.runs.now)

pub returns-in_default-clause-values : goal.returns-in_default-clause-values
returns-in_default-clause-values c =
    RunsWalk-fails kind.string c.args.runs.now _ _ _ _ _ c.loop-run-test.true c.run-item.is c.lent_run-times.ensures.value c.lent_run-times.ensures.times (sym c.lent_text.ensures ∙ ap (option_map (λ o. or_null string (option_map (λ t. t.now) o))) c.in_default.is) c.loop-run.invariant

pub loop-run-preserved : goal.loop-run-preserved
loop-run-preserved c =
    rw (rows_shown string _ _ _ _ c.in_ok-push_text.ensures)
    (RunsWalk-more kind.string c.args.runs.now _ _ _ _ _ _ c.loop-run-test.true c.run-item.is c.lent_run-times.ensures.value c.lent_run-times.ensures.times (sym c.lent_text.ensures ∙ ap (option_map (λ o. or_null string (option_map (λ t. t.now) o))) c.in-Some.is) c.loop-run.invariant)

pub returns-clause-values : goal.returns-clause-values
returns-clause-values c =
    ap (λ rows. Some (map (or_null string) rows)) c.in_ok-finish.ensures.texts
    ∙ RunsWalk-all kind.string c.args.runs.now _ _ (omega arith) c.loop-run.invariant

pub returns-clause-typed : goal.returns-clause-typed
returns-clause-typed c = rw c.in_ok-finish.ensures.texts c.in_ok-finish.ensures.typed
