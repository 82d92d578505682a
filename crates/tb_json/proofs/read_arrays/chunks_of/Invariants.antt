use Rattle.std.proofs.Common.{map}
use Rattle.tb_tree.specs.View.{view}
use Rattle.tb_chunk.specs.Made.{IsTyped}
use Rattle.tb_json.specs.Promise.Lists.{each, list_in}
use Rattle.tb_value.specs.SeeKind.{kind_of}
use Rattle.tb_json.specs.Promise.Cells.{cell_in}
use Rattle.tb_json.proofs.LentValues.{Walk}
use Rattle.tb_json.proofs.read_arrays.chunks_of.Given as goal

abbrev pub invariant-loop-value : goal.invariant-loop-value
invariant-loop-value g l = record {
  walked : Walk (λ v. list_in (view v)) (each (cell_in (kind_of l.dtype))) l.written (map g.C.Chunk.shown l.chunks.items) l.value-index;
  typed : IsTyped (kind_of l.dtype) (map g.C.Chunk.shown l.chunks.items);
}
