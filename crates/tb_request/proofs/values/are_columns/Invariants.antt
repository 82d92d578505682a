use Rattle.std.proofs.Common.{◌≡◌, is_some, map}
use Rattle.tb_request.specs.Promise.Columns.{columns_from}
use Rattle.tb_request.specs.Lent.{written_view}
use Rattle.tb_request.proofs.values.are_columns.Given as goal

-- the columns that are left decide
abbrev pub invariant-loop-item : goal.invariant-loop-item
invariant-loop-item l = is_some (columns_from (map written_view l.initial.item-iterator.rest.items)) ≡ is_some (columns_from (map written_view l.item-iterator.rest.items))
