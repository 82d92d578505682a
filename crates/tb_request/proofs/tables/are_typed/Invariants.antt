use Rattle.std.proofs.Common.{◌≡◌, is_some, map}
use Rattle.tb_json.specs.Promise.Lists.{each}
use Rattle.tb_request.specs.Promise.Columns.{columns_from}
use Rattle.tb_request.specs.Lent.{written_views}
use Rattle.tb_request.proofs.tables.are_typed.Given as goal

-- the tables that are left decide
abbrev pub invariant-loop-table : goal.invariant-loop-table
invariant-loop-table l = is_some (each columns_from (map written_views l.initial.table-iterator.rest.items)) ≡ is_some (each columns_from (map written_views l.table-iterator.rest.items))
