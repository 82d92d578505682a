use Rattle.std.proofs.Common.{arith, ◌≡◌, ◌∙◌, ◌<◌, ◌+◌, ◌++◌, ◌∷◌, [], ℕ, List, Option, length, get_or, take, ap, sym}
use Rattle.std.proofs.lemmas.List.{map-append, map_more}
use Rattle.std.specs.declared.alloc.Global.{Global}
use Rattle.std.specs.declared.vec.Vec.{Vec}
use Rattle.std.proofs.lemmas.Grind.{common_steps}
use Rattle.tb_value.specs.See.{data_of}
use Rattle.tb_value.specs.declared.any_value.AnyValue.{AnyValue}
use Rattle.tb_cell.specs.Fits.{Fits}
use Rattle.tb_chunk.specs.Promise.Fresh.{fresh_view_array, fresh_view_arrays}
use Rattle.tb_chunk.specs.Made.{lists_of}
use Rattle.tb_view.specs.ViewArrays.{view_arrays_of}
use Rattle.tb_view.specs.declared.view.View.{View}
use Rattle.tb_chunk.proofs.Alls.{all_next_list}
use Rattle.tb_chunk.proofs.make.build.Goals as goal

pub from_values-requires : goal.from_values-requires
from_values-requires g c =
    let n = all_next_list (Fits g.C.Chunk.kind) (λ v. data_of v.items) c.args.lists.now c.loop-list.list-index c.list-item.result (omega arith) c.list-item.is in
    rw c.deref.ensures.value (n.0 c.loop-list.invariant.left).0

-- the runs of one more list
runs_more : (lists : List (Vec AnyValue Global)) (n : ℕ) (list : Vec AnyValue Global) → n < length lists → list ≡ get_or lists n list → fresh_view_arrays (lists_of (take (n + 1) lists)) ≡ fresh_view_arrays (lists_of (take n lists)) ++ fresh_view_array (data_of list.items) ∷ []
runs_more lists n list low is =
    let datas = λ (v : Vec AnyValue Global). data_of v.items in
    ap fresh_view_arrays (map_more datas lists n list low)
    ∙ map-append fresh_view_array (lists_of (take n lists)) (data_of (get_or lists n list).items ∷ [])
    ∙ ap (λ x. fresh_view_arrays (lists_of (take n lists)) ++ fresh_view_array (data_of x.items) ∷ []) (sym is)

runs_made : {C : Type 0} (views : C → List (Option View)) (buffers : C → List (List ℕ)) (chunks made : List C) (c : C) (lists : List (Vec AnyValue Global)) (n : ℕ) (list : Vec AnyValue Global) → n < length lists → list ≡ get_or lists n list → made ≡ chunks ++ c ∷ [] → view_arrays_of views buffers chunks ≡ fresh_view_arrays (lists_of (take n lists)) → views c ≡ (fresh_view_array (data_of list.items)).views → buffers c ≡ (fresh_view_array (data_of list.items)).buffers → view_arrays_of views buffers made ≡ fresh_view_arrays (lists_of (take (n + 1) lists))
runs_made {C} views buffers chunks made c lists n list low is more before v b =
    let one : record { views = views c; buffers = buffers c } ≡ fresh_view_array (data_of list.items) = λ i. record { views = v i; buffers = b i } in
    let both : view_arrays_of views buffers chunks ++ record { views = views c; buffers = buffers c } ∷ [] ≡ fresh_view_arrays (lists_of (take n lists)) ++ fresh_view_array (data_of list.items) ∷ [] = λ i. before i ++ one i ∷ [] in
    ap (view_arrays_of views buffers) more ∙ map-append (λ (x : C). record { views = views x; buffers = buffers x }) chunks (c ∷ []) ∙ both ∙ sym (runs_more lists n list low is)

pub loop-list-preserved : goal.loop-list-preserved
loop-list-preserved g c =
    let n = all_next_list (Fits g.C.Chunk.kind) (λ v. data_of v.items) c.args.lists.now c.loop-list.list-index c.list-item.result (omega arith) c.list-item.is in
    let views = c.in_ok-from_values.ensures.views ∙ ap (λ vs. (fresh_view_array (data_of vs)).views) c.deref.ensures.value in
    let buffers = c.in_ok-from_values.ensures.buffers ∙ ap (λ vs. (fresh_view_array (data_of vs)).buffers) c.deref.ensures.value in
    record {
      made = grind (arith, common_steps);
      view_arrays = runs_made g.C.Chunk.views g.C.Chunk.buffers c.loop-list.chunks.items _ c.in_ok-from_values.field-0 c.args.lists.now c.loop-list.list-index c.list-item.result (omega arith) c.list-item.is c.in_ok-push.ensures.items c.loop-list.invariant.view_arrays views buffers;
      left = (n.0 c.loop-list.invariant.left).1;
    }
