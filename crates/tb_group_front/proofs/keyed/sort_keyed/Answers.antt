use Rattle.std.proofs.Common.{rules}
use Rattle.tb_rows.proofs.InOrder.{in_order-once, keeps_by, sorts_by}
use Rattle.tb_frame.specs.Promise.Table.{table_of}
use Rattle.tb_group_front.specs.Keyed.{keyed_cmp}
use Rattle.tb_group_front.proofs.ByKeys.{keyed_total}
use Rattle.tb_group_front.proofs.keyed.sort_keyed.Goals as goal

pub returns : goal.returns
returns c =
    let cs = table_of c.args.columns.now in
    let old = c.args.rows.now.items in
    let new = c.sort_by.new.self.items in
    in_order-once (keyed_cmp cs) (keyed_total cs) old new
    (sorts_by _ _ (keyed_cmp cs) (keyed_total cs) (λ a r h k. search rules) new c.in_ok-sort_by.ensures.sorted)
    (keeps_by _ _ (keyed_cmp cs) (keyed_total cs) (λ a r h k. search rules) old new c.in_ok-sort_by.ensures.stable)
