use Rattle.tb_node.proofs.PushedMeans.{pushed_means}
use Rattle.tb_node.proofs.PushedNames.{pushed-names, pushed-size}
use Rattle.tb_node.proofs.laws.pushing.Goals as goal

pub returns : goal.returns
returns c = record { meaning = λ ts n t all m. pushed_means ts all n t m; names = pushed-names; size = pushed-size }
