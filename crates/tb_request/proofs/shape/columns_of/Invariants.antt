use Rattle.std.proofs.Common.{map}
use Rattle.tb_tree.specs.View.{view}
use Rattle.tb_request.specs.Promise.Written.{column_of}
use Rattle.tb_request.specs.Lent.{written_view}
use Rattle.tb_json.proofs.LentValues.{Taking}
use Rattle.tb_request.proofs.shape.columns_of.Given as goal

abbrev pub invariant-loop-item : goal.invariant-loop-item
invariant-loop-item l = Taking view (column_of l.format) l.initial.item-iterator.rest.items (map written_view l.columns.items) l.item-iterator.rest.items
