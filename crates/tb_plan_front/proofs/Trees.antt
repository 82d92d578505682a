-- The trees of nodes that are put together.
use Rattle.std.proofs.Common.{◌≡◌, Box, Global, List, rules}
use Rattle.tb_value.specs.Promise.Names.{Name}
use Rattle.tb_filter.specs.Seen.{check_of}
use Rattle.tb_filter.specs.declared.asked.Test.{Test}
use Rattle.tb_frame.specs.declared.args.JoinArgs.{JoinArgs}
use Rattle.tb_node.specs.Promise.Trees as tree
use Rattle.tb_node.specs.Seen.{tree_of}
use Rattle.tb_node.specs.declared.nodes.Node.{Filter, Join, Node, the_lemmas}

pub filter_tree : (i : Box Node Global) (c : Name) (t : Test) → tree_of (Filter i c t) ≡ tree.filter (tree_of i.value) c (check_of t)
filter_tree i c t = search (rules, the_lemmas)

pub join_tree : (l r : Box Node Global) (lo ro : List Name) (a : JoinArgs) → tree_of (Join l r lo ro a) ≡ tree.join (tree_of l.value) (tree_of r.value) lo ro a
join_tree l r lo ro a = search (rules, the_lemmas)
