use Rattle.std.proofs.Common.{Option, None, Some, option_map, ◌≡◌, sym}
use Rattle.serde_json.specs.Data.{Data}
use Rattle.serde_json.specs.Find.{as_array}
use Rattle.serde_json.specs.View.{items_of}
use Rattle.tb_tree.specs.View.{listed}
use Rattle.tb_tree.specs.declared.items.Items.{Items}
use Rattle.tb_json.specs.Promise.Lists.{as_list}
use Rattle.tb_json.proofs.LentValues.{as_list-array, as_list-other}
use Rattle.tb_why.proofs.tree.list.Goals as goal

listed_is : (d : Data) (o : Option Items) → option_map (λ s. items_of (listed s)) o ≡ as_array d → option_map listed o ≡ as_list d
listed_is d None e = sym (as_list-other d e)
listed_is d (Some s) e = sym (as_list-array d (listed s) e)

pub returns : goal.returns
returns c = listed_is _ _ c.as_array.ensures
