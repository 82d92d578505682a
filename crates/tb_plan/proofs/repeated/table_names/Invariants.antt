use Rattle.std.proofs.Common.{◌≡◌, map, take}
use Rattle.tb_node.specs.declared.tables.NamedTable.{NamedTable}
use Rattle.tb_plan.proofs.repeated.table_names.Given as goal

abbrev pub invariant-loop-table : goal.invariant-loop-table
invariant-loop-table l = map (λ n. n.now) l.names.items ≡ map (λ (t : NamedTable). t.name) (take l.table-index l.tables)
