use Rattle.std.proofs.Common.{◌+◌, ◌*◌}
use Rattle.serde_json.specs.Data.{depth}
use Rattle.tb_tree.specs.View.{item_view}
use Rattle.tb_why.proofs.nodes.+nodes.Given as goal

-- the nodes at hand nest less deep
abbrev pub decreases-node_in : goal.decreases-node_in
decreases-node_in l = 2 * depth (item_view l.node)

abbrev pub decreases-node_spot : goal.decreases-node_spot
decreases-node_spot l = 2 * depth (item_view l.node) + 1
