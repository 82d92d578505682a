use Rattle.std.proofs.Common.{◌∙◌}
use Rattle.tb_request.proofs.Parts.{is_list}
use Rattle.tb_request.proofs.shape.is_array.Goals as goal

pub returns : goal.returns
returns c = c.is_some.ensures ∙ is_list _ _ c.as_array.ensures
