use Rattle.std.proofs.Common.{◌≡◌, ◌++◌, length, drop, take}
use Rattle.tb_text.specs.Pieces.{bytes_of}
use Rattle.tb_text.proofs.rooms.fill.Given as goal

-- the pieces before this one stand at the front
abbrev pub invariant-loop-piece : goal.invariant-loop-piece
invariant-loop-piece l = record {
  start : l.start ≡ length (bytes_of (take l.piece-index l.pieces));
  room : l.room ≡ bytes_of (take l.piece-index l.pieces) ++ drop l.start l.initial.room;
}
