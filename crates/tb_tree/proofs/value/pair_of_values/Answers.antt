use Rattle.std.proofs.Common.{map, arith}
use Rattle.std.proofs.lemmas.List.{length-map}
use Rattle.tb_tree.specs.View.{view}
use Rattle.tb_tree.proofs.Views.{no_pair}
use Rattle.tb_tree.proofs.value.pair_of_values.Goals as goal
use Rattle.tb_tree.proofs.value.pair_of_values.Goals.{in_default-via-then-values-lt2, in_default-via-else-values-lt2+else-values-lt3}

pub returns-in_default : goal.returns-in_default
returns-in_default c =
    let same = length-map c.args.values.now view in
    no_pair (map view c.args.values.now) (λ e. elim c.in_default.branch [
      | in_default-via-then-values-lt2 w ↦ grind (arith, same, e)
      | in_default-via-else-values-lt2+else-values-lt3 w ↦ grind (arith, same, e)
    ])
