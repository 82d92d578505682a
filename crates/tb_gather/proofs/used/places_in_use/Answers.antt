use Rattle.std.proofs.Common.{◌≡◌, ◌∙◌, subst, sym}
use Rattle.std.specs.Prelude.{IfSome}
use Rattle.std.specs.List.{All}
use Rattle.indexmap.specs.IndexSet.{insert_key}
use Rattle.tb_chunk.specs.ViewArrays.{view_arrays_of}
use Rattle.tb_gather.specs.Kept.{IsPlace, same_place}
use Rattle.tb_gather.proofs.Kept.{used-more, used-same}
use Rattle.tb_gather.proofs.Places.{All-inserted}
use Rattle.tb_gather.proofs.used.places_in_use.Goals as goal
use Rattle.tb_gather.proofs.used.places_in_use.Goals.{in-Some+in_ok-insert, in_default}

pub loop-id-preserved : goal.loop-id-preserved
loop-id-preserved g c =
    let rs = view_arrays_of g.C.Chunk.views g.C.Chunk.buffers c.args.chunks.now in
    let ids = c.args.ids.now in
    let i = c.loop-id.id-index in
    let before = c.loop-id.places.keys in
    let after = c.match-place_of.places.keys in
    let so_far = c.loop-id.invariant in
    elim c.match-place_of.branch [
      | in-Some+in_ok-insert w ↦ (
          let p = w.in-Some.place in
          let put : after ≡ insert_key same_place before p = (λ k. (w.places-is k).keys) ∙ w.in_ok-insert.ensures.keys in
          let there : IsPlace rs p = subst (λ o. IfSome o (IsPlace rs)) w.in-Some.is c.place_of.ensures.within in
          record {
            places = used-more rs ids i c.id-item.result c.loop-id-test.true c.id-item.is p before after put so_far.places (sym c.place_of.ensures.place ∙ w.in-Some.is);
            within = All-inserted (IsPlace rs) before after p put so_far.within there;
          })
      | in_default w ↦ (
          let same : after ≡ before = λ k. (w.places-is k).keys in
          record {
            places = used-same rs ids i c.id-item.result c.loop-id-test.true c.id-item.is before after same so_far.places (sym c.place_of.ensures.place ∙ w.in_default.is);
            within = subst (All (IsPlace rs)) (sym same) so_far.within;
          })
    ]
