use Rattle.std.proofs.Common.{◌≡◌, [], get_or, map, take}
use Rattle.tb_view.specs.Held.{AreHeld}
use Rattle.tb_chunk.specs.Coalesced.{coalesced_values, coalesced_view_array}
use Rattle.tb_view.specs.ViewArrays.{AreBases, all_buffers, view_array_at, view_arrays_of}
use Rattle.tb_chunk.proofs.coalescing.coalesce_rows.Given as goal

abbrev pub invariant-loop-row : goal.invariant-loop-row
invariant-loop-row g l =
    let rs = view_arrays_of g.C.Chunk.views g.C.Chunk.buffers l.pair in
    record {
      same : g.C.Chunk.shown l.out.chunk ≡ take l.row (coalesced_values (get_or (map g.C.Chunk.shown l.pair) 0 []) (get_or (map g.C.Chunk.shown l.pair) 1 []));
      held : AreHeld (g.C.Chunk.buffers l.out.chunk) l.out.bases.items (map g.C.Chunk.buffers l.pair);
      views : g.C.Chunk.views l.out.chunk ≡ take l.row (coalesced_view_array (get_or (map g.C.Chunk.shown l.pair) 0 []) (view_array_at rs 0) (view_array_at rs 1)).views;
      buffers : g.C.Chunk.buffers l.out.chunk ≡ all_buffers rs;
      bases : AreBases l.out.bases.items rs;
    }
