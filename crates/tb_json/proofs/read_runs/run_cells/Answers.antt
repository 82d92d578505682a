use Rattle.std.proofs.Common.{option_map, ◌∙◌, sym, ap, arith}
use Rattle.std.proofs.lemmas.List.Elements.{All-append, All-nil, All-replicate}
use Rattle.tb_value.specs.SeeKind.{kind_of}
use Rattle.tb_value.specs.Promise.Typed.{HasType}
use Rattle.tb_chunk.specs.Chunk.{or_null}
use Rattle.tb_json.proofs.RunWalks.{RunsWalk-start, RunsWalk-more, RunsWalk-fails, RunsWalk-all}
use Rattle.tb_json.proofs.read_runs.run_cells.Goals as goal

pub loop-run-init : goal.loop-run-init
loop-run-init g c = record {
  walked = rw c.in_ok-cells.ensures (RunsWalk-start (kind_of c.args.dtype.now) c.args.runs.now);
  typed = rw c.in_ok-cells.ensures (All-nil (HasType (kind_of c.args.dtype.now)));
}

pub returns-in_default-clause-cells : goal.returns-in_default-clause-cells
returns-in_default-clause-cells g c =
    RunsWalk-fails (kind_of c.args.dtype.now) c.args.runs.now _ _ _ _ _ c.loop-run-test.true c.run-item.is c.lent_run-times.ensures.value c.lent_run-times.ensures.times (sym c.in_ok-cell.ensures.value ∙ ap (option_map (or_null g.N.Cell.shows)) c.in_default.is) c.loop-run.invariant.walked

pub loop-run-preserved : goal.loop-run-preserved
loop-run-preserved g c = record {
  walked = rw c.in_ok-push_cells.ensures
      (RunsWalk-more (kind_of c.args.dtype.now) c.args.runs.now _ _ _ _ _ _ c.loop-run-test.true c.run-item.is c.lent_run-times.ensures.value c.lent_run-times.ensures.times (sym c.in_ok-cell.ensures.value ∙ ap (option_map (or_null g.N.Cell.shows)) c.in-Some.is) c.loop-run.invariant.walked);
  typed = rw c.in_ok-push_cells.ensures (All-append (HasType (kind_of c.args.dtype.now)) _ _ c.loop-run.invariant.typed (All-replicate (HasType (kind_of c.args.dtype.now)) _ _ (rw c.in-Some.is at c.in_ok-cell.ensures.typed)));
}

pub returns-clause-cells : goal.returns-clause-cells
returns-clause-cells g c = RunsWalk-all (kind_of c.args.dtype.now) c.args.runs.now _ _ (omega arith) c.loop-run.invariant.walked

pub returns-clause-typed : goal.returns-clause-typed
returns-clause-typed g c = c.loop-run.invariant.typed
