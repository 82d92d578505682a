use Rattle.std.proofs.Common.{arith, ◌≡◌, ◌∙◌, ℕ, List, [], ◌∷◌, ◌++◌, Option, ap, sym, length, map, take, get_or}
use Rattle.std.proofs.lemmas.List.{take_all}
use Rattle.tb_chunk.specs.Promise.Col.{concatenation}
use Rattle.tb_chunk.specs.Coalesced.{coalesced_view_array}
use Rattle.tb_view.specs.Promise.ViewArrays.{ViewArray}
use Rattle.tb_view.specs.ViewArrays.{view_array_at, view_arrays_of, joined_view_array}
use Rattle.tb_view.specs.declared.view.View.{View}
use Rattle.tb_view.proofs.ViewArrays.{length-whole, runs_viewed}
use Rattle.tb_chunk.proofs.coalescing.coalesce_one.Goals as goal

-- all of a run
run_of_all : (r : ViewArray) (n : ℕ) (vs : List (Option View)) (bs : List (List ℕ)) → length r.views ≡ n → vs ≡ take n r.views → bs ≡ r.buffers → record { views = vs; buffers = bs } ≡ r
run_of_all r n vs bs same is over =
    let all = is ∙ take_all n r.views (omega arith) in
    λ i. record { views = all i; buffers = over i }

pub returns-clause-view_arrays : goal.returns-clause-view_arrays
returns-clause-view_arrays g c =
    let shown = g.C.Chunk.shown in
    let views = g.C.Chunk.views in
    let buffers = g.C.Chunk.buffers in
    let first = c.args.first.now in
    let second = c.args.second.now in
    let f = c.in_ok-join_rows.field-0 in
    let s = c.in_ok-join_rows-2.field-0 in
    let d = c.in_ok-chunk.chunk in
    let pair : c.deref.result.now ≡ f ∷ s ∷ [] =
    c.deref.ensures.value ∙ c.in_ok-push-2.ensures.items ∙ ap (λ cs. cs ++ s ∷ []) (c.in_ok-push.ensures.items ∙ ap (λ cs. cs ++ f ∷ []) c.in_ok-pair.ensures.items) in
    let viewed = λ (cs : List g.row.C.Denot). length-whole (map shown cs) (view_arrays_of views buffers cs) 0 (runs_viewed shown views buffers g.met.C.Chunk.viewed cs) in
    let values : shown f ≡ concatenation (map shown first) = c.in_ok-join_rows.ensures.shown ∙ take_all c.rows_in.result (concatenation (map shown first)) (omega (arith, c.rows_in.ensures)) in
    let run1 = run_of_all (joined_view_array (view_arrays_of views buffers first)) c.rows_in.result (views f) (buffers f) (viewed first ∙ sym c.rows_in.ensures) c.in_ok-join_rows.ensures.views c.in_ok-join_rows.ensures.buffers in
    let run2 = run_of_all (joined_view_array (view_arrays_of views buffers second)) c.rows_in-2.result (views s) (buffers s) (viewed second ∙ sym c.rows_in-2.ensures) c.in_ok-join_rows-2.ensures.views c.in_ok-join_rows-2.ensures.buffers in
    let run : record { views = views d; buffers = buffers d } ≡ coalesced_view_array (concatenation (map shown first)) (joined_view_array (view_arrays_of views buffers first)) (joined_view_array (view_arrays_of views buffers second)) =
    (λ i. record { views = c.in_ok-chunk.ensures.views i; buffers = c.in_ok-chunk.ensures.buffers i })
    ∙ ap (λ cs. coalesced_view_array (get_or (map shown cs) 0 []) (view_array_at (view_arrays_of views buffers cs) 0) (view_array_at (view_arrays_of views buffers cs) 1)) pair
    ∙ (λ i. coalesced_view_array (values i) (run1 i) (run2 i)) in
    c.wrap.ensures.view_arrays
    ∙ ap (view_arrays_of views buffers) (c.in_ok-push-3.ensures.items ∙ ap (λ cs. cs ++ d ∷ []) c.new-one.ensures.items)
    ∙ ap (λ r. r ∷ []) run
