use Rattle.std.proofs.Common.{arith, ◌≡◌, ◌∙◌, ◌+◌, ◌<◌, ◌++◌, ◌∷◌, [], ℕ, List, None, ap, sym, append_assoc, get_or, length, map, take, drop, length-drop}
use Rattle.std.proofs.lemmas.List.{take_more, get_or-drop}
use Rattle.tb_value.specs.Promise.Datum.{null}
use Rattle.tb_view.specs.Moved.{moved_view}
use Rattle.tb_view.proofs.ViewArrays.{lengths_at, moved_more}
use Rattle.tb_chunk.proofs.grow.push_each.Goals as goal

pub loop-i-preserved : goal.loop-i-preserved
loop-i-preserved g c =
    let l = c.loop-i in
    let shown = g.C.Chunk.shown in
    let views = g.C.Chunk.views in
    let from = c.args.from in
    let chunks = c.args.chunks.now in
    let xs = get_or (map shown chunks) c.args.chunk [] in
    let vs = get_or (map views chunks) c.args.chunk [] in
    let base = get_or c.args.out.now.bases.items c.args.chunk 0 in
    let before = shown c.args.out.now.chunk in
    let viewed = views c.args.out.now.chunk in
    let low : l.i < length (drop from xs) = omega (arith, length-drop from xs, c.requires.within, c.loop-i-test.true) in
    let long = lengths_at views shown g.met.C.Chunk.viewed chunks c.args.chunk in
    let low_view : l.i < length (drop from vs) = omega (arith, length-drop from vs, long, c.requires.within, c.loop-i-test.true) in
    let next : take (l.i + 1) (drop from xs) ≡ take l.i (drop from xs) ++ get_or xs (from + l.i) null ∷ [] = take_more (drop from xs) l.i null low ∙ ap (λ v. take l.i (drop from xs) ++ v ∷ []) (get_or-drop from xs l.i null) in
    record {
      same =
          c.in_ok-push.ensures.shown
          ∙ ap (λ vs. vs ++ get_or xs (from + l.i) null ∷ []) l.invariant.same
          ∙ append_assoc before (take l.i (drop from xs)) (get_or xs (from + l.i) null ∷ [])
          ∙ ap (λ vs. before ++ vs) (sym next);
      held = c.push.ensures.held;
      views =
          c.in_ok-push.ensures.views
          ∙ ap (λ (bs : List ℕ). views l.out.chunk ++ moved_view (get_or bs c.args.chunk 0) (get_or vs (from + l.i) None) ∷ []) l.invariant.bases
          ∙ ap (λ ws. ws ++ moved_view base (get_or vs (from + l.i) None) ∷ []) l.invariant.views
          ∙ append_assoc viewed (map (moved_view base) (take l.i (drop from vs))) (moved_view base (get_or vs (from + l.i) None) ∷ [])
          ∙ ap (λ ws. viewed ++ ws) (sym (moved_more base vs from l.i low_view));
      buffers = c.push.ensures.buffers ∙ l.invariant.buffers;
      bases = c.push.ensures.bases ∙ l.invariant.bases;
    }
