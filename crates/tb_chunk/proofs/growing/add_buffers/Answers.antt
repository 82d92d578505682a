use Rattle.std.proofs.Common.{◌++◌, ◌∙◌, ◌+◌, ap, sym, take, drop}
use Rattle.std.proofs.Math.Seq.{take-add}
use Rattle.std.proofs.lemmas.List.{append_assoc}
use Rattle.tb_chunk.proofs.growing.add_buffers.Goals as goal

pub loop-number-preserved : goal.loop-number-preserved
loop-number-preserved g c =
    let held = g.C.Chunk.buffers c.args.chunk.now in
    let others = g.C.Chunk.buffers c.args.other.now in
    let n = c.loop-number.number in
    record {
      none = c.add_buffer.ensures.shown;
      views = c.add_buffer.ensures.views ∙ c.loop-number.invariant.views;
      buffers =
          c.in_ok-add_buffer.ensures.buffers
          ∙ ap (λ bs. bs ++ take 1 (drop n others)) c.loop-number.invariant.buffers
          ∙ append_assoc held (take n others) (take 1 (drop n others))
          ∙ ap (λ bs. held ++ bs) (sym (take-add n 1 others));
    }
