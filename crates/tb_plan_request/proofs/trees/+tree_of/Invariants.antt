use Rattle.serde_json.specs.Data.{depth}
use Rattle.tb_tree.specs.View.{view}
use Rattle.tb_plan_request.proofs.trees.+tree_of.Given as goal

abbrev pub decreases-tree_of : goal.decreases-tree_of
decreases-tree_of l = depth (view l.value.now)
