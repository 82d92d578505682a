use Rattle.std.proofs.Common.{arith, ◌≡◌, ◌∙◌, ◌<◌, Some, None, [], List, length, map, ap, subst, get_or}
use Rattle.std.proofs.lemmas.List.{get_or-map, length-map}
use Rattle.tb_value.specs.Promise.Datum.{Datum, null}
use Rattle.tb_chunk.specs.Moved.{moved_view}
use Rattle.tb_chunk.specs.ViewArrays.{view_arrays_of, view_or_none, joined_view_array}
use Rattle.tb_gather.specs.Ids.{Id, NamesRow, row_or_none}
use Rattle.tb_frame.specs.Frame.{lengths}
use Rattle.tb_gather.specs.Gathered.{value_of_id}
use Rattle.tb_gather.proofs.Naming.{value-at, view-at}
use Rattle.tb_gather.proofs.gathering.push_named.Goals as goal

pub push-requires-clause-chunk : goal.push-requires-clause-chunk
push-requires-clause-chunk g c =
    let shown = g.C.Chunk.shown in
    let chunks = c.args.chunks.now in
    let named : NamesRow (lengths (map shown chunks)) (Some c.extract-chunk.result) = subst (λ (id : Id). NamesRow (lengths (map shown chunks)) id) c.extract-chunk.ensures c.requires.named in
    omega (arith, named.0, length-map (map shown chunks) (λ (vs : List Datum). length vs), length-map chunks shown)

pub push-requires-clause-row : goal.push-requires-clause-row
push-requires-clause-row g c =
    let shown = g.C.Chunk.shown in
    let chunks = c.args.chunks.now in
    let named : NamesRow (lengths (map shown chunks)) (Some c.extract-chunk.result) = subst (λ (id : Id). NamesRow (lengths (map shown chunks)) id) c.extract-chunk.ensures c.requires.named in
    let low : c.extract-chunk.result.0 < length (map shown chunks) = omega (arith, named.0, length-map (map shown chunks) (λ (vs : List Datum). length vs)) in
    omega (arith, named.1, get_or-map (λ (vs : List Datum). length vs) (map shown chunks) c.extract-chunk.result.0 [] 0 low)

pub returns-clause-shown : goal.returns-clause-shown
returns-clause-shown g c =
    let shown = g.C.Chunk.shown in
    let chunks = c.args.chunks.now in
    let named : NamesRow (lengths (map shown chunks)) (Some c.extract-chunk.result) = subst (λ (id : Id). NamesRow (lengths (map shown chunks)) id) c.extract-chunk.ensures c.requires.named in
    let value : value_of_id (map shown chunks) c.args.id.now ≡ get_or (get_or (map shown chunks) c.extract-chunk.result.0 []) c.extract-chunk.result.1 null = ap (value_of_id (map shown chunks)) c.extract-chunk.ensures ∙ value-at (map shown chunks) c.extract-chunk.result.0 c.extract-chunk.result.1 named.1 in
    rw value c.push.ensures.shown

pub returns-clause-views : goal.returns-clause-views
returns-clause-views g c =
    let shown = g.C.Chunk.shown in
    let views = g.C.Chunk.views in
    let buffers = g.C.Chunk.buffers in
    let chunks = c.args.chunks.now in
    let rs = view_arrays_of views buffers chunks in
    let p = c.extract-chunk.result in
    let named : NamesRow (lengths (map shown chunks)) (Some p) = subst (λ (id : Id). NamesRow (lengths (map shown chunks)) id) c.extract-chunk.ensures c.requires.named in
    let low : p.0 < length (map shown chunks) = omega (arith, named.0, length-map (map shown chunks) (λ (vs : List Datum). length vs)) in
    let within : p.1 < length (get_or (map shown chunks) p.0 []) = omega (arith, named.1, get_or-map (λ (vs : List Datum). length vs) (map shown chunks) p.0 [] 0 low) in
    let view : view_or_none (joined_view_array rs).views (row_or_none (lengths (map shown chunks)) c.args.id.now)
    ≡ moved_view (get_or c.args.out.now.bases.items p.0 0) (get_or (get_or (map views chunks) p.0 []) p.1 None) =
    ap (λ id. view_or_none (joined_view_array rs).views (row_or_none (lengths (map shown chunks)) id)) c.extract-chunk.ensures
    ∙ view-at shown views buffers g.met.C.Chunk.viewed chunks c.args.out.now.bases.items p.0 p.1 c.requires.bases
    (omega (arith, low, length-map chunks shown)) within
    in
    rw view c.push.ensures.views
