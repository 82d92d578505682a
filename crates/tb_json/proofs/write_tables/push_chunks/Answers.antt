use Rattle.std.proofs.Common.{ap, arith}
use Rattle.tb_value.specs.SeeKind.{kind_of}
use Rattle.tb_value.specs.Promise.Typed.{HasType}
use Rattle.tb_chunk.proofs.Alls.{all_next_list}
use Rattle.tb_json.proofs.Runs.{chunk_step, chunks_end}
use Rattle.tb_json.proofs.write_tables.push_chunks.Goals as goal

pub push_chunk-requires : goal.push_chunk-requires
push_chunk-requires g c =
    ((all_next_list (HasType (kind_of c.args.dtype.now)) g.C.Chunk.shown c.args.chunks.now c.loop-chunk.chunk-index c.chunk-item.result (omega arith) c.chunk-item.is).0 c.loop-chunk.invariant.typed).0

pub loop-chunk-preserved : goal.loop-chunk-preserved
loop-chunk-preserved g c = record {
  same = chunk_step g.C.Chunk.shown (kind_of c.args.dtype.now) c.args.chunks.now c.loop-chunk.chunk-index c.chunk-item.result _ _ _ (omega arith) c.chunk-item.is c.in_ok-later.ensures c.loop-chunk.invariant.same;
  typed = ((all_next_list (HasType (kind_of c.args.dtype.now)) g.C.Chunk.shown c.args.chunks.now c.loop-chunk.chunk-index c.chunk-item.result (omega arith) c.chunk-item.is).0 c.loop-chunk.invariant.typed).1;
}

pub returns : goal.returns
returns g c = ap (λ s. s.0) (chunks_end g.C.Chunk.shown (kind_of c.args.dtype.now) c.args.chunks.now c.loop-chunk.chunk-index _ _ (omega arith) c.loop-chunk.invariant.same)
