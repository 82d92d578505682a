use Rattle.std.proofs.Common.{◌≡◌, ◌∙◌, Some, None, Contains, ap, arith, length, sym, subst, map, get_or}
use Rattle.std.specs.Prelude.{IfSome}
use Rattle.std.proofs.lemmas.List.{length-map}
use Rattle.tb_chunk.specs.Held.{StandsAt}
use Rattle.tb_chunk.specs.Moved.{view_at_number}
use Rattle.tb_view.specs.Promise.ViewArrays.{ViewArray}
use Rattle.tb_chunk.specs.ViewArrays.{view_arrays_of}
use Rattle.tb_frame.specs.Frame.{lengths}
use Rattle.tb_gather.specs.Gathered.{value_of_id}
use Rattle.tb_gather.specs.Ids.{Id, NamesRow}
use Rattle.tb_gather.specs.Kept.{buffer_at, number_in, place_of, view_among, named_view}
use Rattle.tb_gather.proofs.Kept.{chunk-low, row-low, run-there, stands-there, value-there, view-there}
use Rattle.tb_gather.proofs.used.push_used.Goals as goal

pub number_of-number-requires : goal.number_of-number-requires
number_of-number-requires g c =
    let rs = view_arrays_of g.C.Chunk.views g.C.Chunk.buffers c.args.chunks.now in
    (omega arith, (c.requires.named, omega (arith, g.met.C.Chunk.few c.args.out.now, ap length c.requires.held, length-map c.args.places.now.keys (buffer_at rs))))

pub push_from-requires-clause-row : goal.push_from-requires-clause-row
push_from-requires-clause-row g c =
    let shown = g.C.Chunk.shown in
    let chunks = c.args.chunks.now in
    let named : NamesRow (lengths (map shown chunks)) (Some c.extract-chunk.result) = subst (λ (id : Id). NamesRow (lengths (map shown chunks)) id) c.extract-chunk.ensures c.requires.named in
    row-low shown chunks c.extract-chunk.result named c.index-chunks-chunk.result c.index-chunks-chunk.is

pub push_from-requires-clause-held : goal.push_from-requires-clause-held
push_from-requires-clause-held g c =
    let shown = g.C.Chunk.shown in
    let chunks = c.args.chunks.now in
    let rs = view_arrays_of g.C.Chunk.views g.C.Chunk.buffers chunks in
    let ps = c.args.places.now.keys in
    let p = c.extract-chunk.result in
    let n = c.number_of-number.result in
    let named : NamesRow (lengths (map shown chunks)) (Some p) = subst (λ (id : Id). NamesRow (lengths (map shown chunks)) id) c.extract-chunk.ensures c.requires.named in
    let used : IfSome (place_of rs (Some p)) (Contains ps) = subst (λ (id : Id). IfSome (place_of rs id) (Contains ps)) c.extract-chunk.ensures c.requires.used in
    let number : n ≡ number_in ps (place_of rs c.args.id.now) = c.number_of-number.ensures in
    let there = stands-there rs ps (g.C.Chunk.buffers c.args.out.now) p n c.requires.held used (number ∙ ap (λ id. number_in ps (place_of rs id)) c.extract-chunk.ensures) in
    let run = run-there g.C.Chunk.views g.C.Chunk.buffers chunks p.0 c.index-chunks-chunk.result (chunk-low shown chunks p named) c.index-chunks-chunk.is in
    subst (λ (r : ViewArray). StandsAt (g.C.Chunk.buffers c.args.out.now) n r.buffers (get_or r.views p.1 None)) run there

pub returns-clause-shown : goal.returns-clause-shown
returns-clause-shown g c =
    let shown = g.C.Chunk.shown in
    let chunks = c.args.chunks.now in
    let named : NamesRow (lengths (map shown chunks)) (Some c.extract-chunk.result) = subst (λ (id : Id). NamesRow (lengths (map shown chunks)) id) c.extract-chunk.ensures c.requires.named in
    let value = ap (value_of_id (map shown chunks)) c.extract-chunk.ensures ∙ value-there shown chunks c.extract-chunk.result named c.index-chunks-chunk.result c.index-chunks-chunk.is in
    rw value c.push_from.ensures.ok

pub returns-clause-views : goal.returns-clause-views
returns-clause-views g c =
    let shown = g.C.Chunk.shown in
    let chunks = c.args.chunks.now in
    let rs = view_arrays_of g.C.Chunk.views g.C.Chunk.buffers chunks in
    let ps = c.args.places.now.keys in
    let p = c.extract-chunk.result in
    let named : NamesRow (lengths (map shown chunks)) (Some p) = subst (λ (id : Id). NamesRow (lengths (map shown chunks)) id) c.extract-chunk.ensures c.requires.named in
    let view : named_view rs c.args.id.now ≡ get_or (g.C.Chunk.views c.index-chunks-chunk.result) p.1 None =
    ap (named_view rs) c.extract-chunk.ensures ∙ view-there g.C.Chunk.views g.C.Chunk.buffers chunks p c.index-chunks-chunk.result (chunk-low shown chunks p named) c.index-chunks-chunk.is
    in
    let number : c.number_of-number.result ≡ number_in ps (place_of rs c.args.id.now) = c.number_of-number.ensures in
    let placed : view_among rs ps c.args.id.now ≡ view_at_number c.number_of-number.result (get_or (g.C.Chunk.views c.index-chunks-chunk.result) p.1 None) = λ i. view_at_number (sym number i) (view i) in
    rw placed c.push_from.ensures.views
