use Rattle.std.proofs.Common.{◌≡◌, map, take}
use Rattle.tb_chunk.specs.Promise.Col.{concatenation}
use Rattle.tb_chunk.specs.Held.{AreHeld}
use Rattle.tb_chunk.specs.Rows.{value_or_null}
use Rattle.tb_chunk.specs.ViewArrays.{AreBases, all_buffers, moved_views, view_arrays_of, view_or_none}
use Rattle.tb_gather.proofs.picking.pick_rows.Given as goal

abbrev pub invariant-loop-pair : goal.invariant-loop-pair
invariant-loop-pair g l =
    let rs = view_arrays_of g.C.Chunk.views g.C.Chunk.buffers l.chunks in
    record {
      same : g.C.Chunk.shown l.out.chunk ≡ map (λ r. value_or_null (concatenation (map g.C.Chunk.shown l.chunks)) (g.S.RowOf.number r)) (take l.pair-index l.pairs);
      held : AreHeld (g.C.Chunk.buffers l.out.chunk) l.out.bases.items (map g.C.Chunk.buffers l.chunks);
      views : g.C.Chunk.views l.out.chunk ≡ map (λ r. view_or_none (moved_views 0 rs) (g.S.RowOf.number r)) (take l.pair-index l.pairs);
      buffers : g.C.Chunk.buffers l.out.chunk ≡ all_buffers rs;
      bases : AreBases l.out.bases.items rs;
    }
