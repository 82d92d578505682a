use Rattle.std.proofs.Common.{◌≡◌, rules, subst, sym, ◌∙◌}
use Rattle.std.proofs.lemmas.Result.{on_ok_weaker}
use Rattle.tb_value.specs.Promise.Pairs.{left_first, right_first}
use Rattle.tb_value.proofs.Orders.{left_first_total, right_first_total}
use Rattle.tb_value.proofs.Sorting.{sorted_by_order}
use Rattle.tb_frame.specs.declared.args.Direction.{Direction}
use Rattle.tb_frame.specs.declared.args.Direction.TheVariants.{ByLeft, ByRight}
use Rattle.tb_frame.specs.Promise.Join.{Ascends, direction}
use Rattle.tb_frame.proofs.arranging.order_pairs.Goals as goal

pub returns-in-ByLeft : goal.returns-in-ByLeft
returns-in-ByLeft c =
    let way : ByLeft ≡ direction c.args.how c.args.order = sym c.in-ByLeft.is ∙ c.direction_of.ensures in
    on_ok_weaker c.sort_by.result (λ s. record { permutation = c.sort_by.ensures.permutation; ascends = subst (λ (d : Direction). Ascends d c.sort_by.new.self.items) way (sorted_by_order _ _ left_first left_first_total (λ f a r g k. search rules) c.sort_by.new.self.items s) }) c.sort_by.ensures.sorted

pub returns-in-ByRight : goal.returns-in-ByRight
returns-in-ByRight c =
    let way : ByRight ≡ direction c.args.how c.args.order = sym c.in-ByRight.is ∙ c.direction_of.ensures in
    on_ok_weaker c.sort_by-in-ByRight.result (λ s. record { permutation = c.sort_by-in-ByRight.ensures.permutation; ascends = subst (λ (d : Direction). Ascends d c.sort_by-in-ByRight.new.self.items) way (sorted_by_order _ _ right_first right_first_total (λ f a r g k. search rules) c.sort_by-in-ByRight.new.self.items s) }) c.sort_by-in-ByRight.ensures.sorted
