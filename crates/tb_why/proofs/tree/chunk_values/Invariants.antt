use Rattle.std.specs.List.{All}
use Rattle.tb_value.specs.See.{data_of}
use Rattle.tb_value.specs.SeeKind.{kind_of}
use Rattle.tb_value.specs.Promise.Typed.{HasType}
use Rattle.tb_json.specs.Promise.Cells.{cell_in}
use Rattle.tb_json.proofs.LentValues.{ItemsWalk}
use Rattle.tb_why.proofs.tree.chunk_values.Given as goal

abbrev pub invariant-loop-i : goal.invariant-loop-i
invariant-loop-i l = record {
  walked : ItemsWalk (cell_in (kind_of l.dtype)) l.items (data_of l.values.items) l.i;
  typed : All (HasType (kind_of l.dtype)) (data_of l.values.items);
}
