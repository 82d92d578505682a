use Rattle.std.proofs.Common.{◌≡◌, ◌<◌, length, map, drop, get_or}
use Rattle.tb_chunk.specs.Promise.Col.{concatenation}
use Rattle.tb_value.specs.Promise.Datum.{null}
use Rattle.tb_chunk.proofs.chunks.value_in.Given as goal

abbrev pub invariant-loop-chunk : goal.invariant-loop-chunk
invariant-loop-chunk g l = record {
  within : l.left < length (concatenation (map g.C.Chunk.shown (drop l.chunk-index l.chunks)));
  same : get_or (concatenation (map g.C.Chunk.shown l.chunks)) l.row null ≡ get_or (concatenation (map g.C.Chunk.shown (drop l.chunk-index l.chunks))) l.left null;
}
