use Rattle.tb_value.specs.SeeKind.{kind_of}
use Rattle.tb_chunk.specs.RunLayout.{data_runs, AreRunsOf}
use Rattle.tb_json.proofs.LentValues.{ItemsWalk}
use Rattle.tb_why.specs.Columns.{run_at}
use Rattle.tb_why.proofs.tree.run_values.Given as goal

abbrev pub invariant-loop-i : goal.invariant-loop-i
invariant-loop-i l = record {
  walked : ItemsWalk (run_at (kind_of l.dtype)) l.runs (data_runs l.values.items) l.i;
  typed : AreRunsOf (kind_of l.dtype) (data_runs l.values.items);
}
