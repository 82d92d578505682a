use Rattle.std.proofs.Common.{[], ap, sym}
use Rattle.std.specs.Prelude.{unwrap_or}
use Rattle.tb_tree.specs.View.{view, listed}
use Rattle.tb_json.proofs.LentValues.{as_list-array}
use Rattle.tb_json.proofs.read_arrays.items_of.Goals as goal

pub returns-in-Some : goal.returns-in-Some
returns-in-Some c = sym (ap (λ o. unwrap_or o []) (as_list-array (view c.args.value.now) (listed c.in-Some.items) c.in-Some.ensures))
