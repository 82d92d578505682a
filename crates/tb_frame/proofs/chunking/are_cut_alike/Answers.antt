use Rattle.std.proofs.Common.{◌∙◌, sym, refl, arith}
use Rattle.tb_frame.proofs.Cuts.{lens-alike, lens-at}
use Rattle.tb_frame.proofs.chunking.are_cut_alike.Goals as goal

pub returns-then-chunk_len : goal.returns-then-chunk_len
returns-then-chunk_len c = (
  λ h. absurd (cc),
  λ e. absurd (c.if-chunk_len.true (c.chunk_len.ensures ∙ lens-at c.args.first.now c.args.second.now c.loop-chunk.chunk (omega arith) e ∙ sym c.chunk_len-in-loop-chunk.ensures)),
)

pub returns : goal.returns
returns c = (
  λ h. lens-alike c.args.first.now c.args.second.now (omega arith) (λ k low. c.loop-chunk.invariant k (omega arith)),
  λ e. refl,
)
