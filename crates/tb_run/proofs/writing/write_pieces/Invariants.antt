-- The pieces before this one were taken.
use Rattle.std.proofs.Common.{◌≡◌, ◌≤◌, IsTrue, take}
use Rattle.std.specs.Io.KnownBytes.{Appends}
use Rattle.tb_text.specs.Pieces.{bytes_of}
use Rattle.tb_run.proofs.writing.write_pieces.Given as goal

abbrev pub invariant-loop-piece : goal.invariant-loop-piece
invariant-loop-piece g l = record {
  taken : Appends (g.K.Sink.written l.initial.sink) (g.K.Sink.written l.sink) (bytes_of (take l.piece-index l.pieces));
  kept : g.K.Sink.faults l.initial.sink ≤ g.K.Sink.faults l.sink;
  count : IsTrue g.K.Sink.is_exact → g.K.Sink.faults l.sink ≡ g.K.Sink.faults l.initial.sink;
}
