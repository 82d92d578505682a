use Rattle.std.proofs.Common.{◌≡◌, ◌∙◌, List, ap, arith, length, length-take-le, map, subst, sym, take}
use Rattle.std.specs.Prelude.{IfSome}
use Rattle.std.specs.List.{Contains}
use Rattle.std.proofs.lemmas.List.{length-map}
use Rattle.tb_value.specs.Promise.Datum.{Datum}
use Rattle.tb_chunk.specs.ViewArrays.{view_arrays_of}
use Rattle.tb_frame.specs.Frame.{lengths}
use Rattle.tb_gather.specs.Gathered.{value_of_id}
use Rattle.tb_gather.specs.Ids.{NamesRow}
use Rattle.tb_gather.specs.Kept.{Place, buffer_at, place_of}
use Rattle.tb_gather.proofs.Kept.{used-there}
use Rattle.tb_gather.proofs.used.gather_used.Goals as goal

pub loop-id-init : goal.loop-id-init
loop-id-init g c = record {
  shown = c.in_ok-out.ensures.shown;
  views = c.in_ok-out.ensures.views;
  buffers = c.in_ok-out.ensures.buffers ∙ ap (map (buffer_at (view_arrays_of g.C.Chunk.views g.C.Chunk.buffers c.args.chunks.now))) (c.as_slice.ensures.keys ∙ c.in_ok-places.ensures.places);
}

pub push_used-requires : goal.push_used-requires
push_used-requires g c =
    let rs = view_arrays_of g.C.Chunk.views g.C.Chunk.buffers c.args.chunks.now in
    let lists = map g.C.Chunk.shown c.args.chunks.now in
    let ids = c.args.ids.now in
    let i = c.loop-id.id-index in
    let id = c.id-item.result in
    let places = c.in_ok-places.ensures.places in
    let named : NamesRow (lengths lists) id = subst (NamesRow (lengths lists)) (sym c.id-item.is) (c.requires.named i id c.loop-id-test.true) in
    let held = subst (λ (ps : List Place). g.C.Chunk.buffers c.loop-id.out ≡ map (buffer_at rs) ps) (sym places) c.loop-id.invariant.buffers in
    let used = subst (λ (ps : List Place). IfSome (place_of rs id) (Contains ps)) (sym places) (used-there rs ids i id c.loop-id-test.true c.id-item.is) in
    (omega arith, (omega (arith, ap (λ (vs : List Datum). length vs) c.loop-id.invariant.shown, length-map (take i ids) (value_of_id lists), length-take-le i ids c.loop-id.auto.id-index-end, c.requires.few), (named, (held, used))))
