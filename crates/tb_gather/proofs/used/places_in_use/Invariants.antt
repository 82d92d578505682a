use Rattle.std.proofs.Common.{◌≡◌, take}
use Rattle.std.specs.List.{All}
use Rattle.tb_chunk.specs.ViewArrays.{view_arrays_of}
use Rattle.tb_gather.specs.Kept.{IsPlace, used_places}
use Rattle.tb_gather.proofs.used.places_in_use.Given as goal

abbrev pub invariant-loop-id : goal.invariant-loop-id
invariant-loop-id g l = record {
  places : l.places.keys ≡ used_places (view_arrays_of g.C.Chunk.views g.C.Chunk.buffers l.chunks) (take l.id-index l.ids);
  within : All (IsPlace (view_arrays_of g.C.Chunk.views g.C.Chunk.buffers l.chunks)) l.places.keys;
}
