use Rattle.std.proofs.Common.{◌∙◌}
use Rattle.tb_node.specs.Promise.Pushed.{pushed}
use Rattle.tb_node.specs.Seen.{tree_of}
use Rattle.tb_node.proofs.pushing.push_filters.Goals as goal

pub returns : goal.returns
returns c = c.in_ok-node.ensures.node ∙ (λ t. pushed (λ n. c.in_ok-tables.ensures n t) (tree_of c.args.root))
