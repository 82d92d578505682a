use Rattle.tb_value.specs.SeeKind.{kind_of}
use Rattle.tb_chunk.specs.Made.{lists_of, IsTyped}
use Rattle.tb_json.specs.Promise.Cells.{cell_in}
use Rattle.tb_json.specs.Promise.Lists.{each}
use Rattle.tb_json.proofs.LentValues.{ItemsWalk}
use Rattle.tb_why.specs.Columns.{items_of}
use Rattle.tb_why.proofs.tree.chunk_lists.Given as goal

abbrev pub invariant-loop-i : goal.invariant-loop-i
invariant-loop-i l = record {
  walked : ItemsWalk (λ d. each (cell_in (kind_of l.dtype)) (items_of d)) l.chunks (lists_of l.lists.items) l.i;
  typed : IsTyped (kind_of l.dtype) (lists_of l.lists.items);
}
