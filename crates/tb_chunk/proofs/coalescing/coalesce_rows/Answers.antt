use Rattle.std.proofs.Common.{◌≡◌, ◌<◌, ◌∙◌, ◌∷◌, ◌++◌, ℕ, Bool, List, [], Option, None, true, false, cond, sym, ap, refl, arith, length, map, get_or}
use Rattle.std.proofs.lemmas.List.{get_or-map, take_all}
use Rattle.tb_value.specs.Promise.Datum.{Datum, null, is_null}
use Rattle.tb_chunk.specs.Promise.Coalesced.{or_else}
use Rattle.tb_chunk.specs.Coalesced.{coalesced_values, coalesced_view_array}
use Rattle.tb_view.specs.Moved.{moved_view}
use Rattle.tb_view.specs.ViewArrays.{view_array_at, view_arrays_of}
use Rattle.tb_view.specs.declared.view.View.{View}
use Rattle.tb_chunk.proofs.CoalescedLists.{length-merged, length-merged_run, merged-more, merged_run-more, or_else-null, lent-present, or_else-present}
use Rattle.tb_view.proofs.ViewArrays.{buffers_of_two, length-runs_of, lengths_at, moved-0, second_base, views_at}
use Rattle.tb_chunk.proofs.coalescing.coalesce_rows.Goals as goal
use Rattle.tb_chunk.proofs.coalescing.coalesce_rows.Goals.{in-Null+in_ok-push-in-Null, in_default+in_ok-push-in_default}

-- the view that is pushed, by whether the value is Null
of_second : (base n : ℕ) (us ws : List (Option View)) (i : ℕ) (absent : Bool) (other : Option View) → base ≡ n → us ≡ ws → absent ≡ true → moved_view base (get_or us i None) ≡ cond absent (moved_view n (get_or ws i None)) other
of_second base n us ws i absent other e same is = (λ j. moved_view (e j) (get_or (same j) i None)) ∙ ap (λ b. cond b (moved_view n (get_or ws i None)) other) (sym is)

of_first : (base : ℕ) (us ws : List (Option View)) (i : ℕ) (absent : Bool) (other : Option View) → base ≡ 0 → us ≡ ws → absent ≡ false → moved_view base (get_or us i None) ≡ cond absent other (get_or ws i None)
of_first base us ws i absent other e same is = (λ j. moved_view (e j) (get_or (same j) i None)) ∙ moved-0 (get_or ws i None) ∙ ap (λ b. cond b other (get_or ws i None)) (sym is)

pub loop-row-preserved : goal.loop-row-preserved
loop-row-preserved g c =
    let l = c.loop-row in
    let shown = g.C.Chunk.shown in
    let views = g.C.Chunk.views in
    let buffers = g.C.Chunk.buffers in
    let pair = c.args.pair.now in
    let rs = view_arrays_of views buffers pair in
    let a = view_array_at rs 0 in
    let b = view_array_at rs 1 in
    let first = c.index-pair-0.result in
    let xs = get_or (map shown pair) 0 [] in
    let ys = get_or (map shown pair) 1 [] in
    let here : xs ≡ shown first = get_or-map shown pair 0 first [] (omega (arith, c.requires.pair)) ∙ ap shown (sym c.index-pair-0.is) in
    let i = l.row in
    let low : i < length xs = omega (arith, c.len-row-end.ensures, c.loop-row-test.true, ap length here) in
    let more = sym (merged-more xs ys i c.requires.same_len low) in
    let value = c.value.ensures.value ∙ ap (λ (vs : List Datum). get_or vs i null) (sym here) in
    let at0 = views_at views buffers pair 0 in
    let at1 = views_at views buffers pair 1 in
    let wide0 = sym (ap length at0) ∙ lengths_at views shown g.met.C.Chunk.viewed pair 0 in
    let wide1 = sym (ap length at1) ∙ lengths_at views shown g.met.C.Chunk.viewed pair 1 ∙ sym c.requires.same_len in
    let views_more = sym (merged_run-more xs a b i wide0 wide1 low) in
    let many : length rs ≡ 2 = length-runs_of views buffers pair ∙ c.requires.pair in
    let base0 = l.invariant.bases 0 (omega (arith, many)) in
    let base1 = l.invariant.bases 1 (omega (arith, many)) ∙ second_base rs many in
    elim c.match-value.branch [
      | in-Null+in_ok-push-in-Null w ↦
          let absent : null ≡ get_or xs i null = w.in-Null.ensures.value ∙ ap (λ (vs : List Datum). get_or vs i null) (sym here) in
          let then : get_or ys i null ≡ or_else (get_or xs i null) (get_or ys i null) = sym (or_else-null (get_or xs i null) (get_or ys i null) null refl absent) in
          let view = of_second (get_or l.out.bases.items 1 0) (length a.buffers) (get_or (map views pair) 1 []) b.views i (is_null (get_or xs i null)) (get_or a.views i None) base1 at1 (ap is_null (sym absent)) in
          record {
            same = ap (λ o. shown o.chunk) w.out-is ∙ w.in_ok-push-in-Null.ensures.shown ∙ (λ t. l.invariant.same t ++ then t ∷ []) ∙ more;
            held = rw w.out-is w.push.ensures.held;
            views = ap (λ o. views o.chunk) w.out-is ∙ w.in_ok-push-in-Null.ensures.views ∙ (λ t. l.invariant.views t ++ view t ∷ []) ∙ views_more;
            buffers = ap (λ o. buffers o.chunk) w.out-is ∙ w.push.ensures.buffers ∙ l.invariant.buffers;
            bases = rw (w.out-is, w.push.ensures.bases) l.invariant.bases;
          }
      | in_default+in_ok-push-in_default w ↦
          let some : is_null (get_or xs i null) ≡ false = ap is_null (sym value) ∙ lent-present c.value.result w.in_default.not-Null in
          let then : get_or xs i null ≡ or_else (get_or xs i null) (get_or ys i null) = sym (or_else-present (get_or xs i null) (get_or ys i null) some) in
          let view = of_first (get_or l.out.bases.items 0 0) (get_or (map views pair) 0 []) a.views i (is_null (get_or xs i null)) (moved_view (length a.buffers) (get_or b.views i None)) base0 at0 some in
          record {
            same = ap (λ o. shown o.chunk) w.out-is ∙ w.in_ok-push-in_default.ensures.shown ∙ (λ t. l.invariant.same t ++ then t ∷ []) ∙ more;
            held = rw w.out-is w.push-in_default.ensures.held;
            views = ap (λ o. views o.chunk) w.out-is ∙ w.in_ok-push-in_default.ensures.views ∙ (λ t. l.invariant.views t ++ view t ∷ []) ∙ views_more;
            buffers = ap (λ o. buffers o.chunk) w.out-is ∙ w.push-in_default.ensures.buffers ∙ l.invariant.buffers;
            bases = rw (w.out-is, w.push-in_default.ensures.bases) l.invariant.bases;
          }
    ]

pub returns : goal.returns
returns g c =
    let shown = g.C.Chunk.shown in
    let views = g.C.Chunk.views in
    let buffers = g.C.Chunk.buffers in
    let pair = c.args.pair.now in
    let rs = view_arrays_of views buffers pair in
    let xs = get_or (map shown pair) 0 [] in
    let ys = get_or (map shown pair) 1 [] in
    let here : xs ≡ shown c.index-pair-0.result = get_or-map shown pair 0 c.index-pair-0.result [] (omega (arith, c.requires.pair)) ∙ ap shown (sym c.index-pair-0.is) in
    let long = length-merged xs ys c.requires.same_len in
    let wide0 = sym (ap length (views_at views buffers pair 0)) ∙ lengths_at views shown g.met.C.Chunk.viewed pair 0 in
    let wide1 = sym (ap length (views_at views buffers pair 1)) ∙ lengths_at views shown g.met.C.Chunk.viewed pair 1 ∙ sym c.requires.same_len in
    let wide = length-merged_run xs (view_array_at rs 0) (view_array_at rs 1) wide0 wide1 in
    record {
      shown = ap shown c.finish.ensures ∙ c.loop-row.invariant.same ∙ take_all c.loop-row.row (coalesced_values xs ys) (omega (arith, long, c.len-row-end.ensures, c.loop-row-test.false, ap length here));
      views =
          ap views c.finish.ensures
          ∙ c.loop-row.invariant.views
          ∙ take_all c.loop-row.row (coalesced_view_array xs (view_array_at rs 0) (view_array_at rs 1)).views (omega (arith, wide, c.len-row-end.ensures, c.loop-row-test.false, ap length here));
      buffers = ap buffers c.finish.ensures ∙ c.loop-row.invariant.buffers ∙ buffers_of_two rs (length-runs_of views buffers pair ∙ c.requires.pair);
    }
