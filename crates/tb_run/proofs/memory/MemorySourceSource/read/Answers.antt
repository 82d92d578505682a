use Rattle.std.proofs.Common.{arith, rules}
use Rattle.std.proofs.lemmas.Grind.{common_steps}
use Rattle.tb_run.proofs.Counting.{failed_counts, handed}
use Rattle.tb_run.proofs.memory.MemorySourceSource.read.Goals as goal

pub returns-then-next_fails-clause-count : goal.returns-then-next_fails-clause-count
returns-then-next_fails-clause-count c = failed_counts _ _ _ (search rules)

pub returns-clause-bytes : goal.returns-clause-bytes
returns-clause-bytes c = handed c.self.inside.bytes.items _ _ c.self.inside.at c.give-n.result _ (search rules) (grind (arith, common_steps)) (grind (arith, common_steps))
