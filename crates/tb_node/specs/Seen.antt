-- What contracts see of plans, and of the tables that they are given.
use Rattle.std.specs.Prelude.{List, map}
use Rattle.tb_value.specs.Promise.Names.{Name}
use Rattle.tb_frame.specs.Promise.Table.{Table, table_of}
use Rattle.tb_filter.specs.Seen.{check_of}
use Rattle.tb_node.specs.declared.nodes.Node.{Node, fold-Node}
use Rattle.tb_node.specs.declared.nodes.Node.TheOpen.{Node-F}
use Rattle.tb_node.specs.declared.tables.NamedTable.{NamedTable}
use Rattle.tb_node.specs.Promise.Trees.{Tree, table, join, filter}

-- one level of a node, with each node inside already seen; and a node
abbrev pub tree_step : Node-F Tree → Tree
tree_step (Node-F.Table n) = table n
tree_step (Node-F.Join l r lo ro a) = join l.value r.value lo ro a
tree_step (Node-F.Filter i c t) = filter i.value c (check_of t)

abbrev pub tree_of : Node → Tree
tree_of = fold-Node Tree tree_step

abbrev pub given_tables : List NamedTable → List (Name × Table)
given_tables ts = map (λ (t : NamedTable). (t.name, table_of t.table)) ts
