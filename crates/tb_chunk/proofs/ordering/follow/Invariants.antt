use Rattle.std.proofs.Common.{◌≡◌, ◌+◌, ◌≤◌, length, take, drop, map}
use Rattle.tb_value.specs.Promise.Datum.{null}
use Rattle.tb_value.specs.See.{lent_value}
use Rattle.tb_cell.specs.Promise.Order.{last_in_order}
use Rattle.tb_chunk.specs.Promise.Col.{concatenation}
use Rattle.tb_chunk.proofs.ordering.follow.Given as goal

abbrev pub invariant-loop-chunk : goal.invariant-loop-chunk
invariant-loop-chunk g l = record {
  same : last_in_order l.descending null (take l.len (drop l.start (concatenation (map g.C.Chunk.shown l.chunks)))) ≡ last_in_order l.descending (lent_value l.last) (take l.left (drop l.skip (concatenation (map g.C.Chunk.shown (drop l.chunk-index l.chunks)))));
  within : l.skip + l.left ≤ length (concatenation (map g.C.Chunk.shown (drop l.chunk-index l.chunks)));
}
