use Rattle.std.proofs.Common.{◌∙◌, rules}
use Rattle.tb_asked.proofs.joins.join_call.Goals as goal

pub returns : goal.returns
returns c = c.in-Err.ensures (c.deref.ensures.value ∙ search rules)
