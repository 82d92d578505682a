use Rattle.std.proofs.Common.{map, arith}
use Rattle.std.proofs.lemmas.List.{length-map}
use Rattle.tb_tree.specs.View.{whole}
use Rattle.tb_tree.proofs.Views.{no_pair}
use Rattle.tb_tree.proofs.value.pair_of_wholes.Goals as goal
use Rattle.tb_tree.proofs.value.pair_of_wholes.Goals.{in_default-via-then-numbers-lt2, in_default-via-else-numbers-lt2+else-numbers-lt3}

pub returns-in_default : goal.returns-in_default
returns-in_default c =
    let same = length-map c.args.numbers.now whole in
    no_pair (map whole c.args.numbers.now) (λ e. elim c.in_default.branch [
      | in_default-via-then-numbers-lt2 w ↦ grind (arith, same, e)
      | in_default-via-else-numbers-lt2+else-numbers-lt3 w ↦ grind (arith, same, e)
    ])
