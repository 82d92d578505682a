use Rattle.std.proofs.Common.{◌≡◌, ◌++◌, map}
use Rattle.tb_request.specs.Lent.{written_views}
use Rattle.tb_plan_request.specs.Lent.{written_table}
use Rattle.tb_plan_request.specs.Promise.Reading.{table_columns, table_names}
use Rattle.tb_plan_request.proofs.tables.named_columns.Given as goal

-- those so far, and those of the tables that are left
abbrev pub invariant-loop-table : goal.invariant-loop-table
invariant-loop-table l = record {
  names : l.names.items ++ table_names (map written_table l.table-iterator.rest.items) ≡ table_names (map written_table l.initial.table-iterator.rest.items);
  columns : map written_views l.columns.items ++ table_columns (map written_table l.table-iterator.rest.items) ≡ table_columns (map written_table l.initial.table-iterator.rest.items);
}
