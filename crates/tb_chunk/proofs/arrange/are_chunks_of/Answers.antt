use Rattle.std.proofs.Common.{arith, refl}
use Rattle.tb_value.specs.SeeKind.{kind_of}
use Rattle.tb_value.specs.Promise.Typed.{HasType}
use Rattle.tb_chunk.proofs.Alls.{all_next_list, all_none}
use Rattle.tb_chunk.proofs.arrange.are_chunks_of.Goals as goal

pub returns-then-not-is_chunk_of : goal.returns-then-not-is_chunk_of
returns-then-not-is_chunk_of g c =
    let n = all_next_list (HasType (kind_of c.args.dtype.now)) g.C.Chunk.shown c.args.chunks.now c.loop-chunk.chunk-index c.chunk-item.result (omega arith) c.chunk-item.is in
    (λ h. absurd (cc), λ a. let h = c.is_chunk_of.ensures.1 (n.0 (c.loop-chunk.invariant.0 a)).0 in let t = c.if-not-is_chunk_of.true in cc)

pub loop-chunk-preserved : goal.loop-chunk-preserved
loop-chunk-preserved g c =
    let n = all_next_list (HasType (kind_of c.args.dtype.now)) g.C.Chunk.shown c.args.chunks.now c.loop-chunk.chunk-index c.chunk-item.result (omega arith) c.chunk-item.is in
    let t = c.if-not-is_chunk_of.false in
    (λ a. (n.0 (c.loop-chunk.invariant.0 a)).1, λ b. c.loop-chunk.invariant.1 (n.1 (c.is_chunk_of.ensures.0 t, b)))

pub returns : goal.returns
returns g c = (λ _. c.loop-chunk.invariant.1 (all_none (HasType (kind_of c.args.dtype.now)) g.C.Chunk.shown c.args.chunks.now c.loop-chunk.chunk-index (omega arith)), λ _. refl)
