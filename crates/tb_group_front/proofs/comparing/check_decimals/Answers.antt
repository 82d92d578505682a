use Rattle.std.proofs.Common.{◌∙◌, ◌∷◌, [], List, Option, ap, sym, subst}
use Rattle.std.specs.Prelude.{◌&&◌}
use Rattle.tb_frame.specs.Promise.Naming.{is_among}
use Rattle.tb_frame.specs.Promise.Table.{table_of}
use Rattle.tb_group.specs.declared.request.GroupAgg.{GroupAgg}
use Rattle.tb_front.specs.declared.fault.Comparison.TheVariants.{LeastOrGreatest, Rows}
use Rattle.tb_front.specs.declared.fault.FrontFault.{FrontFault}
use Rattle.tb_front.specs.Promise.Asked.{first_decimals}
use Rattle.tb_front.specs.Promise.Faults.{Settles}
use Rattle.tb_front.proofs.Steps.{first_of_one, passes}
use Rattle.tb_group_front.specs.Promise.Grouped.{compared_names}
use Rattle.tb_group_front.proofs.comparing.check_decimals.Goals as goal

pub returns : goal.returns
returns c =
    let types = c.args.types.now in
    let call = c.args.call.now in
    let t = table_of c.args.table.now in
    let order = first_decimals types Rows (λ n. call.sorts && is_among call.by.items n) t in
    passes c.check_order.result (first_decimals types LeastOrGreatest (is_among (compared_names call.aggs.items)) t) (order ∷ [])
    (ap (λ (aggs : List GroupAgg). first_decimals types LeastOrGreatest (is_among (compared_names aggs)) t) (sym c.deref.ensures.value) ∙ c.in_ok-check_extremes.ensures)
    (subst (λ (f : Option FrontFault). Settles c.check_order.result f) (sym (first_of_one order)) c.check_order.ensures)
