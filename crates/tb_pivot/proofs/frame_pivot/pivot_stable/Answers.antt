use Rattle.std.proofs.Common.{◌≡◌, ◌∙◌, ap, rules}
use Rattle.std.specs.Option.{option_copied, option_map}
use Rattle.tb_pivot.specs.AggWay.{agg_way, way_or_row}
use Rattle.tb_pivot.specs.Promise.Request.{Way, asked, one_row, way_of}
use Rattle.tb_pivot.proofs.Ways.{settles_alike, table_alike}
use Rattle.tb_pivot.proofs.frame_pivot.pivot_stable.Goals as goal

pub returns-in-Some-Expr-clause-settles : goal.returns-in-Some-Expr-clause-settles
returns-in-Some-Expr-clause-settles g c =
    let due : Way = way_or_row (option_map (λ a. agg_way (λ d. (g.dyn-1.0.entry d).1.named) (λ d. (g.dyn-1.0.entry d).1.answers) a.now) c.args.agg_fn) in
    let way : ((x : g.dyn-1.0.I) × (g.dyn-1.0.entry x).0.Denot) → Way = λ e. asked ((g.dyn-1.0.entry e.0).1.named e.1) ((g.dyn-1.0.entry e.0).1.answers e.1) in
    let opened : c.deref_box-1.result.now ≡ (c.in-Some-Expr.expr.vtable, c.in-Some-Expr.expr.value) = search rules in
    let same : way (c.in-Some-Expr.expr.vtable, c.in-Some-Expr.expr.value) ≡ due = search rules in
    settles_alike c.args.pivot_df.now c.args.on.now (option_copied c.args.index) (option_copied c.args.values) c.args.sort_columns c.args.separator c.pivot_asked.result
    (way c.deref_box-1.result.now) due (ap way opened ∙ same) c.pivot_asked.ensures.settles

pub returns-in-Some : goal.returns-in-Some
returns-in-Some g c =
    let due : Way = way_or_row (option_map (λ a. agg_way (λ d. (g.dyn-1.0.entry d).1.named) (λ d. (g.dyn-1.0.entry d).1.answers) a.now) c.args.agg_fn) in
    let same : way_of c.aggregate-aggregate.result ≡ due = search rules in
    record {
      settles =
          settles_alike c.args.pivot_df.now c.args.on.now (option_copied c.args.index) (option_copied c.args.values) c.args.sort_columns c.args.separator c.pivot_by.result
          (way_of c.aggregate-aggregate.result) due same c.pivot_by.ensures.settles;
      table =
          table_alike c.args.pivot_df.now c.args.on.now (option_copied c.args.index) (option_copied c.args.values) c.args.sort_columns c.args.separator c.pivot_by.result
          (way_of c.aggregate-aggregate.result) due same c.pivot_by.ensures.table;
    }

pub returns-in-None-clause-settles : goal.returns-in-None-clause-settles
returns-in-None-clause-settles g c =
    let due : Way = way_or_row (option_map (λ a. agg_way (λ d. (g.dyn-1.0.entry d).1.named) (λ d. (g.dyn-1.0.entry d).1.answers) a.now) c.args.agg_fn) in
    let same : one_row ≡ due = search rules in
    settles_alike c.args.pivot_df.now c.args.on.now (option_copied c.args.index) (option_copied c.args.values) c.args.sort_columns c.args.separator c.pivot_by-in-None.result
    one_row due same c.pivot_by-in-None.ensures.settles
