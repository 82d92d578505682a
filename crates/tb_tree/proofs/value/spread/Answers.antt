use Rattle.std.proofs.Common.{◌≡◌, get_or, pos, rules, arith, to_z, of_z, w64, ◌∷◌, [], ◌++◌, map, take, sym, ap, ◌∙◌}
use Rattle.std.proofs.lemmas.Int.{ints}
use Rattle.std.proofs.lemmas.List.{map_push, map_more}
use Rattle.tb_tree.specs.View.{whole}
use Rattle.tb_tree.proofs.value.spread.Goals as goal

pub loop-number-preserved : goal.loop-number-preserved
loop-number-preserved c =
    let number = get_or c.args.numbers.now c.loop-number.number-index (pos 0) in
    let back : to_z w64 (of_z w64 number) ≡ number = first_of (search rules, grind (arith, ints)) in
    rw (c.in_ok-push.ensures.items, map_push, c.loop-number.invariant, c.whole.ensures)
    (ap (λ n. map whole (take c.loop-number.number-index c.args.numbers.now) ++ whole n ∷ []) back ∙ sym (map_more whole c.args.numbers.now _ _ c.loop-number-test.true))
