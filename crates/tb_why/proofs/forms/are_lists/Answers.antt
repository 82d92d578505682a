use Rattle.std.proofs.Common.{◌∙◌}
use Rattle.tb_json.specs.Promise.Lists.{as_list}
use Rattle.tb_tree.specs.View.{item_view, listed}
use Rattle.tb_json.proofs.LentValues.{list_of_all}
use Rattle.tb_why.proofs.forms.are_lists.Goals as goal

pub returns-in-Some : goal.returns-in-Some
returns-in-Some c = c.all_lists.ensures ∙ list_of_all as_list (item_view c.args.value) (listed c.in-Some.items) c.in-Some.ensures
