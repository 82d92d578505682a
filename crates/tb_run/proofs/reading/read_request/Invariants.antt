-- What is in `bytes` was taken from the source.
use Rattle.std.proofs.Common.{◌≡◌, ◌≤◌, ◌+◌, ◌-◌, IsTrue, vec_len}
use Rattle.std.specs.Io.KnownBytes.{Consumes}
use Rattle.tb_value.specs.declared.limits.TheConstants.{MAX_INPUT}
use Rattle.tb_run.proofs.reading.read_request.Given as goal

abbrev pub invariant-loop-room : goal.invariant-loop-room
invariant-loop-room g l = record {
  taken : Consumes (g.S.Source.left l.initial.source) (g.S.Source.left l.source) l.bytes.items;
  fits : vec_len l.bytes ≤ MAX_INPUT + 1;
  kept : g.S.Source.faults l.initial.source ≤ g.S.Source.faults l.source;
  count : IsTrue g.S.Source.is_exact → g.S.Source.faults l.source ≡ g.S.Source.faults l.initial.source;
}

abbrev pub decreases-loop-room : goal.decreases-loop-room
decreases-loop-room g l = MAX_INPUT + 1 - vec_len l.bytes
