use Rattle.std.proofs.Common.{rules, ◌≡◌, ◌∙◌}
use Rattle.tb_delta.proofs.Gone.{told_in_order}
use Rattle.tb_delta.proofs.groups.is_absent.Goals as goal

pub returns : goal.returns
returns c = λ order. c.is_err.ensures.value ∙ told_in_order c.args.gone.now c.args.id c.binary_search.result order c.binary_search.ensures.position
