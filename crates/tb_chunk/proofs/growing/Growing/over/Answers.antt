use Rattle.std.proofs.Common.{arith, ◌≡◌, ◌<◌, ◌++◌, ◌∷◌, [], ◌∙◌, ◌+◌, ap, sym, length, map, take, length-take-le}
use Rattle.std.proofs.lemmas.List.{map_more, length-map}
use Rattle.tb_view.specs.ViewArrays.{view_arrays_of}
use Rattle.tb_view.proofs.Held.{AreHeld-nil, AreHeld-push}
use Rattle.tb_view.proofs.ViewArrays.{bases_more, buffers_more}
use Rattle.tb_chunk.proofs.growing.Growing.over.Goals as goal

pub loop-other-init : goal.loop-other-init
loop-other-init g c = record {
  none = c.in_ok-chunk.ensures.shown;
  held = rw (c.in_ok-chunk.ensures.buffers, c.in_ok-bases.ensures.items) (AreHeld-nil []);
  views = c.in_ok-chunk.ensures.views;
  buffers = c.in_ok-chunk.ensures.buffers;
  bases = λ k low. absurd (omega (arith, low));
}

pub loop-other-preserved : goal.loop-other-preserved
loop-other-preserved g c =
    let l = c.loop-other in
    let buffers = g.C.Chunk.buffers in
    let chunks = c.args.chunks.now in
    let x = c.other-item.result in
    let n = l.other-index in
    let low : n < length chunks = omega arith in
    let rs = view_arrays_of g.C.Chunk.views buffers chunks in
    let next : map buffers (take (n + 1) chunks) ≡ map buffers (take n chunks) ++ buffers x ∷ [] = map_more buffers chunks n x low ∙ ap (λ y. map buffers (take n chunks) ++ buffers y ∷ []) (sym c.other-item.is) in
    let p = AreHeld-push (buffers l.chunk) l.bases.items (map buffers (take n chunks)) (buffers x) l.invariant.held in
    let h0 = l.invariant.held.whole in
    let h1 = length-map (take n chunks) buffers in
    let h2 = length-take-le n chunks (omega arith) in
    let many : length l.bases.items ≡ n = omega (arith, h0, h1, h2) in
    let number = c.buffer_count.ensures ∙ ap length l.invariant.buffers in
    record {
      none = c.add_buffers.ensures.shown;
      held = rw (next, c.in_ok-push.ensures.items, c.in_ok-add_buffers.ensures.buffers, c.buffer_count.ensures) p;
      views = c.add_buffers.ensures.views ∙ l.invariant.views;
      buffers = c.in_ok-add_buffers.ensures.buffers ∙ ap (λ bs. bs ++ buffers x) l.invariant.buffers ∙ sym (buffers_more g.C.Chunk.views buffers chunks n x low c.other-item.is);
      bases = rw c.in_ok-push.ensures.items (bases_more l.bases.items rs n _ many number l.invariant.bases);
    }
