use Rattle.std.proofs.Common.{◌≡◌, map, take}
use Rattle.tb_chunk.specs.Held.{AreHeld}
use Rattle.tb_chunk.specs.ViewArrays.{AreBases, picked_of, view_arrays_of, joined_view_array}
use Rattle.tb_frame.specs.Frame.{lengths}
use Rattle.tb_gather.specs.Gathered.{value_of_id}
use Rattle.tb_gather.specs.Ids.{row_or_none}
use Rattle.tb_gather.proofs.gathering.gather_all.Given as goal

abbrev pub invariant-loop-id : goal.invariant-loop-id
invariant-loop-id g l = record {
  same : g.C.Chunk.shown l.out.chunk ≡ map (value_of_id (map g.C.Chunk.shown l.chunks)) (take l.id-index l.ids);
  held : AreHeld (g.C.Chunk.buffers l.out.chunk) l.out.bases.items (map g.C.Chunk.buffers l.chunks);
  views : g.C.Chunk.views l.out.chunk ≡ (picked_of (row_or_none (lengths (map g.C.Chunk.shown l.chunks))) (take l.id-index l.ids) (joined_view_array (view_arrays_of g.C.Chunk.views g.C.Chunk.buffers l.chunks))).views;
  buffers : g.C.Chunk.buffers l.out.chunk ≡ (joined_view_array (view_arrays_of g.C.Chunk.views g.C.Chunk.buffers l.chunks)).buffers;
  bases : AreBases l.out.bases.items (view_arrays_of g.C.Chunk.views g.C.Chunk.buffers l.chunks);
}
