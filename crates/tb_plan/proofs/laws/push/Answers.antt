use Rattle.tb_node.proofs.PushedNames.{pushed-names, pushed-size}
use Rattle.tb_plan.proofs.Outcomes.{same_answer}
use Rattle.tb_plan.proofs.laws.push.Goals as goal

pub returns : goal.returns
returns c = record { table = same_answer; names = pushed-names; size = pushed-size }
