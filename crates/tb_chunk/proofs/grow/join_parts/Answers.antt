use Rattle.std.proofs.Common.{◌≡◌, ◌∙◌, ◌++◌, ◌-◌, ◌+◌, ◌<◌, [], ap, sym, arith, get_or, length, map, take, drop, min, length-append, length-take-le, length-drop}
use Rattle.std.proofs.lemmas.List.{get_or-map, length-map}
use Rattle.tb_chunk.specs.Promise.Col.{concatenation}
use Rattle.tb_view.specs.Moved.{moved_view}
use Rattle.tb_view.specs.ViewArrays.{base_of, moved_views, view_arrays_of}
use Rattle.tb_chunk.proofs.Lists.{flat_drop}
use Rattle.tb_cell.proofs.Parts.{parts_more}
use Rattle.tb_view.proofs.ViewArrays.{base_more, length-runs_of, moved_part, views_left}
use Rattle.tb_chunk.proofs.grow.join_parts.Goals as goal

pub loop-chunk-preserved : goal.loop-chunk-preserved
loop-chunk-preserved g c =
    let l = c.loop-chunk in
    let shown = g.C.Chunk.shown in
    let views = g.C.Chunk.views in
    let buffers = g.C.Chunk.buffers in
    let chunks = c.args.chunks.now in
    let rs = view_arrays_of views buffers chunks in
    let x = c.index-chunks-chunk.result in
    let k = l.chunk in
    let from = c.min-from.result in
    let count = c.min-count.result in
    let low : k < length chunks = omega (arith, c.loop-chunk-test.true) in
    let xs = shown x in
    let here : get_or (map shown chunks) k [] ≡ xs = get_or-map shown chunks k x [] low ∙ ap shown (sym c.index-chunks-chunk.is) in
    let ys = concatenation (map shown (drop (k + 1) chunks)) in
    let cut = flat_drop shown chunks k x low c.index-chunks-chunk.is in
    let out = shown l.out.chunk in
    let h : shown c.push_rows.new.out.chunk ≡ out ++ take count (drop from xs) = c.in_ok-push_rows.ensures.shown ∙ ap (λ zs. out ++ take count (drop from zs)) here in
    let n : c.len-rows.result ≡ length xs = c.len-rows.ensures in
    let m1 : from ≡ min l.skip (length xs) = c.min-from.ensures ∙ ap (λ k. min l.skip k) n in
    let m2 : count ≡ min l.left (length xs - from) = c.min-count.ensures ∙ ap (λ k. min l.left (k - from)) n in
    let len : length (concatenation (map shown (drop k chunks))) ≡ length xs + length ys = ap length cut ∙ length-append xs ys in
    let hl : length (shown c.push_rows.new.out.chunk) ≡ length out + length (take count (drop from xs)) = ap length h ∙ length-append out (take count (drop from xs)) in
    let tl : length (take count (drop from xs)) ≡ count = length-take-le count (drop from xs) (omega (arith, length-drop from xs)) in
    let base = base_of rs k in
    let vs = map (moved_view base) (views x) in
    let ws = moved_views (base + length (buffers x)) (drop (k + 1) rs) in
    let wide : length xs ≡ length vs = sym (length-map (views x) (moved_view base) ∙ g.met.C.Chunk.viewed x) in
    let seen : get_or (map views chunks) k [] ≡ views x = get_or-map views chunks k x [] low ∙ ap views (sym c.index-chunks-chunk.is) in
    let at : get_or l.out.bases.items k 0 ≡ base = l.invariant.bases k (omega (arith, low, length-runs_of views buffers chunks)) in
    let v : views c.push_rows.new.out.chunk ≡ views l.out.chunk ++ take count (drop from vs) =
    c.in_ok-push_rows.ensures.views
    ∙ (λ i. views l.out.chunk ++ map (moved_view (at i)) (take count (drop from (seen i))))
    ∙ ap (λ zs. views l.out.chunk ++ zs) (moved_part base (views x) from count) in
    let left = ap (λ zs. views l.out.chunk ++ take l.left (drop l.skip zs)) (sym (views_left views buffers chunks k base x low c.index-chunks-chunk.is)) ∙ l.invariant.views in
    record {
      same = parts_more (take c.args.len (drop c.args.start (concatenation (map shown chunks)))) out _ xs ys l.skip l.left from count m1 m2 h (ap (λ zs. out ++ take l.left (drop l.skip zs)) (sym cut) ∙ l.invariant.same);
      within = omega (arith, len, l.invariant.within);
      room = omega (arith, hl, tl, l.invariant.room);
      held = c.push_rows.ensures.held;
      views =
          ap (λ b. views c.push_rows.new.out.chunk ++ take (l.left - count) (drop (l.skip - from) (moved_views b (drop (k + 1) rs)))) (base_more views buffers chunks k x low c.index-chunks-chunk.is)
          ∙ parts_more (take c.args.len (drop c.args.start (moved_views 0 rs))) (views l.out.chunk) _ vs ws l.skip l.left from count (m1 ∙ ap (λ n. min l.skip n) wide) (m2 ∙ ap (λ n. min l.left (n - from)) wide) v left;
      buffers = c.push_rows.ensures.buffers ∙ l.invariant.buffers;
      bases = rw c.push_rows.ensures.bases l.invariant.bases;
    }
