use Rattle.std.proofs.Common.{◌∙◌, ap, append-nil, refl, map, take, drop, ◌∷◌, []}
use Rattle.tb_value.specs.SeeKind.{kind_of}
use Rattle.tb_chunk.specs.Promise.Col.{Col, concatenation}
use Rattle.tb_chunk.specs.Col.{physical}
use Rattle.tb_chunk.specs.ViewArrays.{all_buffers, view_arrays_of}
use Rattle.tb_store.proofs.Columns.{part_column}
use Rattle.tb_store.proofs.chunked_array.ChunkedArray.part.Goals as goal

pub invariant_of-result : goal.invariant_of-result
invariant_of-result g c =
    let shown = g.T.Array.Chunk.shown in
    let whole : Col = record { name = c.self.inside.name; kind = kind_of c.self.inside.dtype; chunks = map shown c.self.inside.chunks.items; flag = c.self.inside.flag; view_arrays = view_arrays_of g.T.Array.Chunk.views g.T.Array.Chunk.buffers c.self.inside.chunks.items } in
    let cut = c.in_ok-chunks.ensures.shown ∙ ap (λ xs. take c.args.len (drop c.args.start (concatenation (map shown xs))) ∷ []) c.deref.ensures.value in (
      ap physical c.in_ok-dtype.ensures ∙ c.self.invariant.0,
      part_column whole _ c.args.start c.args.len c.self.invariant.1 c.in_ok-dtype.ensures cut refl,
      rw (c.in_ok-chunks.ensures.view_arrays, append-nil (all_buffers (view_arrays_of g.T.Array.Chunk.views g.T.Array.Chunk.buffers c.deref.result.now)), c.deref.ensures.value) c.self.invariant.2,
    )
