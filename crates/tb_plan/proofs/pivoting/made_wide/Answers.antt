use Rattle.std.proofs.Common.{ap}
use Rattle.std.specs.Option.{option_map}
use Rattle.tb_frame.specs.Promise.Table.{table_of}
use Rattle.tb_pivot.specs.AggWay.{agg_way, way_or_row}
use Rattle.tb_pivot.specs.Promise.Request.{Way}
use Rattle.tb_pivot.specs.declared.expr.PivotAgg.{PivotAgg}
use Rattle.tb_plan.proofs.Wide.{lent_as, wide_given, wide_refused}
use Rattle.tb_plan.proofs.pivoting.made_wide.Goals as goal

pub returns-in-Ok : goal.returns-in-Ok
returns-in-Ok g c =
    let way : PivotAgg g.dyn-1.0.I (λ x. (g.dyn-1.0.entry x).0.Denot) → Way = λ a. agg_way (λ d. (g.dyn-1.0.entry d).1.named) (λ d. (g.dyn-1.0.entry d).1.answers) a in
    wide_given c.args.node c.args.table.now _ _ _ _ _ _ c.args.pivot.now.sort_columns (way_or_row (option_map (λ a. way a.now) c.as_ref.result)) (way_or_row (option_map way c.args.pivot.now.agg)) c.text_given.result c.args.pivot.now.separator
    c.deref.ensures.value c.names_given.ensures c.names_given-2.ensures (ap way_or_row (lent_as way c.as_ref.result c.args.pivot.now.agg c.as_ref.ensures.value)) c.text_given.ensures
    (table_of c.in-Ok.table) c.in-Ok.ensures.settles c.in-Ok.ensures.table

pub returns-in-Err : goal.returns-in-Err
returns-in-Err g c =
    let way : PivotAgg g.dyn-1.0.I (λ x. (g.dyn-1.0.entry x).0.Denot) → Way = λ a. agg_way (λ d. (g.dyn-1.0.entry d).1.named) (λ d. (g.dyn-1.0.entry d).1.answers) a in
    wide_refused c.args.node c.args.table.now _ _ _ _ _ _ c.args.pivot.now.sort_columns (way_or_row (option_map (λ a. way a.now) c.as_ref.result)) (way_or_row (option_map way c.args.pivot.now.agg)) c.text_given.result c.args.pivot.now.separator
    c.deref.ensures.value c.names_given.ensures c.names_given-2.ensures (ap way_or_row (lent_as way c.as_ref.result c.args.pivot.now.agg c.as_ref.ensures.value)) c.text_given.ensures
    c.in-Err.error c.fault_at.result c.fault_at.ensures c.in-Err.ensures.settles
