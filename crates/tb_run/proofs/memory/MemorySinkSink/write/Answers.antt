use Rattle.std.proofs.Common.{rules}
use Rattle.tb_run.proofs.Counting.{failed_counts}
use Rattle.tb_run.proofs.memory.MemorySinkSink.write.Goals as goal

pub returns-then-planned-clause-count : goal.returns-then-planned-clause-count
returns-then-planned-clause-count c = failed_counts _ _ _ (search rules)
