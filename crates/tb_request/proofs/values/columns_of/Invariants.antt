use Rattle.std.proofs.Common.{map}
use Rattle.tb_request.specs.Promise.Columns.{values_of}
use Rattle.tb_request.specs.Lent.{written_view, claimed_view}
use Rattle.tb_json.proofs.LentValues.{Taking}
use Rattle.tb_request.proofs.values.columns_of.Given as goal

abbrev pub invariant-loop-item : goal.invariant-loop-item
invariant-loop-item l = Taking written_view values_of l.initial.item-iterator.rest.items (map claimed_view l.columns.items) l.item-iterator.rest.items
