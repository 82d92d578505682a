use Rattle.tb_chunk.proofs.TypedRows.{utf8_rows}
use Rattle.tb_chunk.proofs.builders.StringBuilder.finish.Goals as goal

pub invariant_of-result : goal.invariant_of-result
invariant_of-result c = record { utf8 = rw c.in_ok-finish.ensures.texts (utf8_rows c.self.inside.inner.rows c.self.invariant) }
