use Rattle.std.proofs.Common.{◌≡◌, ◌+◌, drop, length}
use Rattle.tb_chunk.specs.Promise.Col.{concatenation}
use Rattle.tb_chunk.specs.Seen.{chunk_lists}
use Rattle.tb_pieces.proofs.piece_column.first_chunk.Given as goal

abbrev pub invariant-loop-chunk : goal.invariant-loop-chunk
invariant-loop-chunk l = record {
  rows : drop l.before (concatenation (chunk_lists l.chunks)) ≡ concatenation (drop l.chunk (chunk_lists l.chunks));
  all : l.before + length (concatenation (drop l.chunk (chunk_lists l.chunks))) ≡ length (concatenation (chunk_lists l.chunks));
}
