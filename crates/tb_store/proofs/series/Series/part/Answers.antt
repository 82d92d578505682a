use Rattle.std.proofs.Common.{arith, ◌∙◌, length, ap, refl, sym}
use Rattle.tb_value.specs.SeeKind.{kind_of}
use Rattle.tb_chunk.specs.Promise.Col.{Col}
use Rattle.tb_chunk.specs.Col.{physical}
use Rattle.tb_chunk.specs.ChunkViewArrays.{chunk_view_arrays}
use Rattle.tb_chunk.specs.Seen.{chunk_lists}
use Rattle.tb_chunk.proofs.ChunkViewArrays.{one_chunk_few}
use Rattle.tb_store.proofs.Columns.{part_column}
use Rattle.tb_store.proofs.series.Series.part.Goals as goal

pub invariant_of-result : goal.invariant_of-result
invariant_of-result c =
    let whole : Col = record { name = c.self.inside.name; kind = kind_of c.self.inside.dtype; chunks = chunk_lists c.self.inside.chunks; flag = c.self.inside.flag; view_arrays = chunk_view_arrays c.self.inside.chunks } in (
      c.in_ok-chunks.ensures.storage ∙ (c.self.invariant.0 ∙ sym (ap physical c.in_ok-dtype.ensures)),
      part_column whole _ c.args.start c.args.len c.self.invariant.1 c.in_ok-dtype.ensures c.in_ok-chunks.ensures.lists refl,
      one_chunk_few c.in_ok-chunks.chunks (omega (arith, ap length c.in_ok-chunks.ensures.lists)),
    )
