use Rattle.std.proofs.Common.{◌∙◌}
use Rattle.serde_json.specs.Find.{as_str}
use Rattle.tb_tree.specs.View.{item_view, listed}
use Rattle.tb_json.proofs.LentValues.{list_of_all}
use Rattle.tb_why.proofs.forms.are_texts.Goals as goal

pub returns-in-Some : goal.returns-in-Some
returns-in-Some c = c.all_texts.ensures ∙ list_of_all as_str (item_view c.args.value) (listed c.in-Some.items) c.in-Some.ensures
