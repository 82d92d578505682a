use Rattle.std.proofs.Common.{◌∙◌, [], ◌∷◌, Ok, ap}
use Rattle.tb_filter.specs.Seen.{check_of}
use Rattle.tb_frame.specs.Promise.Table.{table_of}
use Rattle.tb_node.specs.Promise.Trees.{Tree, table}
use Rattle.tb_node.specs.Promise.Trees as tree
use Rattle.tb_node.specs.Seen.{given_tables, tree_of}
use Rattle.tb_node.specs.declared.nodes.Node.{Filter}
use Rattle.tb_front.specs.declared.fault.NodeTitle.TheVariants as title
use Rattle.tb_plan_front.specs.Explained.{lines_view}
use Rattle.tb_plan_front.specs.Promise.Explained.{alone, left_name, with_line}
use Rattle.tb_plan_front.proofs.Planned.{ends_with}
use Rattle.tb_plan_front.proofs.Trees.{filter_tree}
use Rattle.tb_plan_front.proofs.explaining.filter_explained.Goals as goal

pub returns-in-Err : goal.returns-in-Err
returns-in-Err g c =
    let name = c.args.column in
    let test = c.args.test in
    let leaf = c.in_ok-leaf.field-0 in
    ends_with (given_tables c.in_ok-inputs.inputs.items) ((left_name, table_of c.args.input.table) ∷ [])
    (alone (tree_of (Filter leaf name test))) (alone (tree.filter (table left_name) name (check_of test)))
    c.in_ok-inputs.ensures (ap alone (filter_tree leaf name test ∙ ap (λ (t : Tree). tree.filter t name (check_of test)) c.in_ok-leaf.ensures))
    (λ t. Ok (with_line c.args.depth (title.Filter name) (lines_view c.args.input.lines.items) t)) c.in-Err.fault c.in-Err.ensures
