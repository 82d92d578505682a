use Rattle.std.proofs.Common.{◌∙◌, Option, zero-add}
use Rattle.std.specs.Option.{option_map}
use Rattle.std.proofs.lemmas.Result.{err_from_is_err_and}
use Rattle.tb_frame.specs.Promise.Table.{table_of}
use Rattle.tb_node.specs.Promise.Trees.{size}
use Rattle.tb_node.specs.Seen.{given_tables, tree_of}
use Rattle.tb_node.specs.TableMaps.{tables_in}
use Rattle.tb_plan.specs.Asked.{pivot_asked}
use Rattle.tb_plan.specs.Promise.Outcome.{Pivot, pivoted, plan_outcome}
use Rattle.tb_plan.specs.Seen.{table_made}
use Rattle.tb_plan.proofs.Runs.{ends, gives_alike, stops_node, stops_unknown}
use Rattle.tb_plan.proofs.running.run_plan.Goals as goal

pub returns-in_err-check_tables : goal.returns-in_err-check_tables
returns-in_err-check_tables g c =
    let asked : Option Pivot = option_map (pivot_asked (λ d. (g.dyn-1.0.entry d).1.named) (λ d. (g.dyn-1.0.entry d).1.answers)) c.args.plan.now.pivot in
    let p = err_from_is_err_and c.from_residual-in_err-check_tables.result c.from_residual-in_err-check_tables.ensures.1 in
    rw (p.1, p.2)
    (stops_unknown (given_tables c.args.tables.now) (tree_of c.args.plan.now.root) asked c.in_ok-check_table_names.ensures (tables_in c.in_ok-map.map) c.in_ok-map.ensures
    c.in_err-check_tables.field-0.0 c.in_err-check_tables.ensures.settles)

pub returns-in_err-table : goal.returns-in_err-table
returns-in_err-table g c =
    let asked : Option Pivot = option_map (pivot_asked (λ d. (g.dyn-1.0.entry d).1.named) (λ d. (g.dyn-1.0.entry d).1.answers)) c.args.plan.now.pivot in
    let p = err_from_is_err_and c.from_residual-in_err-table.result c.from_residual-in_err-table.ensures.1 in
    rw (p.1, p.2)
    (stops_node (given_tables c.args.tables.now) (tree_of c.args.plan.now.root) asked c.in_ok-check_table_names.ensures (tables_in c.in_ok-map.map) c.in_ok-map.ensures
    c.in_ok-check_tables.ensures.settles c.in_err-table.field-0.0 c.in_err-table.ensures.gives)

pub returns : goal.returns
returns g c =
    let asked : Option Pivot = option_map (pivot_asked (λ d. (g.dyn-1.0.entry d).1.named) (λ d. (g.dyn-1.0.entry d).1.answers)) c.args.plan.now.pivot in
    gives_alike table_of c.finished.result (pivoted c.in_ok-table.field-0.next asked (table_made c.in_ok-table.field-0.table)) (plan_outcome (given_tables c.args.tables.now) (tree_of c.args.plan.now.root) asked)
    (ends (given_tables c.args.tables.now) (tree_of c.args.plan.now.root) asked c.in_ok-check_table_names.ensures (tables_in c.in_ok-map.map) c.in_ok-map.ensures
    c.in_ok-check_tables.ensures.settles (table_made c.in_ok-table.field-0.table) c.in_ok-table.field-0.next c.in_ok-table.ensures.gives (c.in_ok-table.ensures.next ∙ zero-add (size (tree_of c.args.plan.now.root))))
    c.finished.ensures
