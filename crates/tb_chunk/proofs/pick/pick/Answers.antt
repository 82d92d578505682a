use Rattle.std.proofs.Common.{◌≡◌, ◌∙◌, IfOk, ap, sym, subst, map}
use Rattle.tb_view.specs.ViewArrays.{picked_of, view_arrays_of, joined_view_array, window_of}
use Rattle.tb_view.proofs.ViewArrays.{length-whole, runs_viewed, whole-one, window-all}
use Rattle.tb_chunk.proofs.pick.pick.Goals as goal

pub returns-clause-views : goal.returns-clause-views
returns-clause-views g c =
    let views = g.C.Chunk.views in
    let buffers = g.C.Chunk.buffers in
    let chunks = c.args.chunks.now in
    let all = joined_view_array (view_arrays_of views buffers chunks) in
    let n = c.rows_in.result in
    let viewed = length-whole (map g.C.Chunk.shown chunks) (view_arrays_of views buffers chunks) 0 (runs_viewed g.C.Chunk.shown views buffers g.met.C.Chunk.viewed chunks) in
    let same = ap (λ cs. joined_view_array (view_arrays_of views buffers cs)) c.deref.ensures.value ∙ ap joined_view_array c.in_ok-joined.ensures.view_arrays ∙ whole-one (window_of 0 n all) ∙ window-all all n (viewed ∙ sym c.rows_in.ensures) in
    subst (λ r. IfOk c.pick_rows-2.result (λ made. views made ≡ (picked_of g.R.RowNumber.number c.args.rows.now r).views)) same c.pick_rows-2.ensures.views

pub returns-clause-buffers : goal.returns-clause-buffers
returns-clause-buffers g c =
    let views = g.C.Chunk.views in
    let buffers = g.C.Chunk.buffers in
    let all = joined_view_array (view_arrays_of views buffers c.args.chunks.now) in
    let same = ap (λ cs. joined_view_array (view_arrays_of views buffers cs)) c.deref.ensures.value ∙ ap joined_view_array c.in_ok-joined.ensures.view_arrays ∙ whole-one (window_of 0 c.rows_in.result all) in
    subst (λ r. IfOk c.pick_rows-2.result (λ made. buffers made ≡ r.buffers)) same c.pick_rows-2.ensures.buffers
