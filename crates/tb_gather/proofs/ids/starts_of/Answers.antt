use Rattle.std.proofs.Common.{arith, ◌≡◌, ◌∙◌, ◌<◌, ◌++◌, ◌+◌, ◌∷◌, [], length, get_or, ap, length-append, List, ℕ}
use Rattle.tb_frame.specs.Frame.{lens}
use Rattle.tb_gather.proofs.Starts.{sum-total, sum-next, sum-below, lens-at, lens-count, starts-more}
use Rattle.tb_gather.proofs.ids.starts_of.Goals as goal

pub overflow_add-start : goal.overflow_add-start
overflow_add-start c =
    let column = c.args.column.now in
    let k = c.loop-chunk.chunk in
    let low : k < length column.chunks = omega (arith, c.loop-chunk-test.true, c.n_chunks-count.ensures) in
    omega (arith, c.loop-chunk.invariant.start, c.chunk_len-start.ensures, lens-at column k low, sum-next (lens column) k (omega (arith, low, lens-count column)), sum-below (lens column) (k + 1), sum-total column.chunks, c.len-len.ensures.column.short)

pub loop-chunk-preserved : goal.loop-chunk-preserved
loop-chunk-preserved c =
    let column = c.args.column.now in
    let l = c.loop-chunk in
    let k = l.chunk in
    let low : k < length column.chunks = omega (arith, c.loop-chunk-test.true, c.n_chunks-count.ensures) in
    let more : c.push.new.self.items ≡ l.starts.items ++ l.start ∷ [] = c.in_ok-push.ensures.items in
    record {
      whole = omega (arith, ap length more, length-append l.starts.items (l.start ∷ []), l.invariant.whole);
      each = λ j under. ap (λ (xs : List ℕ). get_or xs j 0) more ∙ starts-more (lens column) l.starts.items k l.start l.invariant.whole l.invariant.each l.invariant.start j under;
      start = omega (arith, l.invariant.start, c.chunk_len-start.ensures, lens-at column k low, sum-next (lens column) k (omega (arith, low, lens-count column)));
    }
