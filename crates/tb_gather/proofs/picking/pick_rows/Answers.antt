use Rattle.std.proofs.Common.{arith, ◌≡◌, ◌<◌, ◌+◌, ◌∙◌, ◌++◌, ◌∷◌, [], ℕ, List, Option, Some, None, ap, sym, append-nil, get_or, length, map, take}
use Rattle.std.proofs.lemmas.List.{map_more}
use Rattle.tb_value.specs.Promise.Datum.{Datum, null}
use Rattle.tb_chunk.specs.Promise.Col.{concatenation}
use Rattle.tb_chunk.specs.Rows.{value_or_null}
use Rattle.tb_chunk.specs.ViewArrays.{moved_views, view_arrays_of, view_or_none}
use Rattle.tb_chunk.proofs.ViewArrays.{length-runs_of, view_of_one}
use Rattle.tb_gather.proofs.picking.pick_rows.Goals as goal
use Rattle.tb_gather.proofs.picking.pick_rows.Goals.{in-Some+in_ok-push-in-Some, in-None+in_ok-push_null-in-None}

-- one more row
row_more : {R Y : Type 0} (f : R → Y) (rows : List R) (i : ℕ) (r : R) (old new : List Y) (y : Y) → i < length rows → r ≡ get_or rows i r → old ≡ map f (take i rows) → new ≡ old ++ y ∷ [] → y ≡ f r → new ≡ map f (take (i + 1) rows)
row_more f rows i r old new y low is same pushed e =
    let last = e ∙ ap f is in
    pushed ∙ (λ j. same j ++ last j ∷ []) ∙ sym (map_more f rows i r low)

-- a value of the only chunk
value_of_one : {C : Type 0} (shown : C → List Datum) (cs : List C) (o : Option ℕ) (row : ℕ) → length cs ≡ 1 → Some row ≡ o → get_or (get_or (map shown cs) 0 []) row null ≡ value_or_null (concatenation (map shown cs)) o
value_of_one shown [] o row one is = absurd (omega arith)
value_of_one shown (c ∷ []) o row one is = ap (λ vs. get_or vs row null) (sym (append-nil (shown c))) ∙ ap (value_or_null (concatenation (shown c ∷ []))) is
value_of_one shown (c ∷ d ∷ cs) o row one is = absurd (omega arith)

pub loop-pair-preserved : goal.loop-pair-preserved
loop-pair-preserved g c =
    let l = c.loop-pair in
    let shown = g.C.Chunk.shown in
    let views = g.C.Chunk.views in
    let buffers = g.C.Chunk.buffers in
    let number = g.S.RowOf.number in
    let chunks = c.args.chunks.now in
    let rows = c.args.pairs.now in
    let i = l.pair-index in
    let r = c.pair-item.result in
    let rs = view_arrays_of views buffers chunks in
    let low : i < length rows = omega (arith, c.loop-pair-test.true) in
    let first = l.invariant.bases 0 (omega (arith, length-runs_of views buffers chunks, c.requires.one)) in
    elim c.match-number.branch [
      | in-Some+in_ok-push-in-Some w ↦
          let is : Some w.in-Some.row ≡ number r = w.in-Some.ensures in
          record {
            same = row_more (λ r. value_or_null (concatenation (map shown chunks)) (number r)) rows i r (shown l.out.chunk) _ _ low c.pair-item.is l.invariant.same
                (ap (λ o. shown o.chunk) w.out-is ∙ w.in_ok-push-in-Some.ensures.shown) (value_of_one shown chunks (number r) w.in-Some.row c.requires.one is);
            held = rw w.out-is w.push.ensures.held;
            views = row_more (λ r. view_or_none (moved_views 0 rs) (number r)) rows i r (views l.out.chunk) _ _ low c.pair-item.is l.invariant.views
                (ap (λ o. views o.chunk) w.out-is ∙ w.in_ok-push-in-Some.ensures.views)
                (view_of_one views buffers chunks (get_or l.out.bases.items 0 0) w.in-Some.row c.requires.one first ∙ ap (view_or_none (moved_views 0 rs)) is);
            buffers = ap (λ o. buffers o.chunk) w.out-is ∙ w.push.ensures.buffers ∙ l.invariant.buffers;
            bases = rw (w.out-is, w.push.ensures.bases) l.invariant.bases;
          }
      | in-None+in_ok-push_null-in-None w ↦
          let is : None ≡ number r = w.in-None.ensures in
          record {
            same = row_more (λ r. value_or_null (concatenation (map shown chunks)) (number r)) rows i r (shown l.out.chunk) _ _ low c.pair-item.is l.invariant.same
                (ap (λ o. shown o.chunk) w.out-is ∙ w.in_ok-push_null-in-None.ensures.shown) (ap (value_or_null (concatenation (map shown chunks))) is);
            held = rw (w.out-is, w.push_null.ensures.buffers, w.push_null.ensures.bases) l.invariant.held;
            views = row_more (λ r. view_or_none (moved_views 0 rs) (number r)) rows i r (views l.out.chunk) _ _ low c.pair-item.is l.invariant.views
                (ap (λ o. views o.chunk) w.out-is ∙ w.in_ok-push_null-in-None.ensures.views) (ap (view_or_none (moved_views 0 rs)) is);
            buffers = ap (λ o. buffers o.chunk) w.out-is ∙ w.push_null.ensures.buffers ∙ l.invariant.buffers;
            bases = rw (w.out-is, w.push_null.ensures.bases) l.invariant.bases;
          }
    ]
