use Rattle.std.proofs.Common.{◌∙◌, [], ap, unwrap_or}
use Rattle.tb_asked.proofs.WholeNames.{whole_names}
use Rattle.tb_asked.proofs.naming.all_names.Goals as goal

pub returns : goal.returns
returns c = c.in_ok-names.ensures ∙ whole_names _ ∙ ap (λ o. unwrap_or o []) c.get_strs-words.ensures
