-- What is gone from `rest` was taken.
use Rattle.std.proofs.Common.{◌≡◌, ◌≤◌, ℕ, IsTrue, List, ◌++◌, length}
use Rattle.std.specs.Io.KnownBytes.{Appends}
use Rattle.tb_run.proofs.writing.write_text.Given as goal

abbrev pub invariant-loop-rest : goal.invariant-loop-rest
invariant-loop-rest g l = record {
  taken : (done : List ℕ) × (l.initial.rest ≡ done ++ l.rest) × Appends (g.K.Sink.written l.initial.sink) (g.K.Sink.written l.sink) done;
  kept : g.K.Sink.faults l.initial.sink ≤ g.K.Sink.faults l.sink;
  count : IsTrue g.K.Sink.is_exact → g.K.Sink.faults l.sink ≡ g.K.Sink.faults l.initial.sink;
}

abbrev pub decreases-loop-rest : goal.decreases-loop-rest
decreases-loop-rest g l = length l.rest
