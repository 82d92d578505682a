use Rattle.tb_rows.proofs.InOrder.{in_order-sorted, in_order-stable, in_order-once}
use Rattle.tb_rows.proofs.laws.ordered_once.Goals as goal

pub returns : goal.returns
returns g c = λ cmp total xs. (in_order-sorted cmp total xs, in_order-stable cmp total xs, in_order-once cmp total xs)
