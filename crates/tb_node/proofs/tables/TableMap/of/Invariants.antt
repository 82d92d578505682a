use Rattle.std.proofs.Common.{◌≡◌, take}
use Rattle.tb_value.specs.Promise.Names.{Name}
use Rattle.tb_node.specs.TableMaps.{columns_under}
use Rattle.tb_node.proofs.ByName.{given}
use Rattle.tb_node.proofs.tables.TableMap.of.Given as goal

-- the map has the tables so far
abbrev pub invariant-loop-table : goal.invariant-loop-table
invariant-loop-table l = (n : Name) → columns_under l.map n ≡ given n (take l.table-index l.tables)
