use Rattle.std.proofs.Common.{◌≡◌, ◌∙◌, [], ◌∷◌, ◌++◌, List, Ok, ap, sym}
use Rattle.std.proofs.lemmas.List.{map-append}
use Rattle.tb_frame.specs.Promise.Table.{table_of}
use Rattle.tb_node.specs.Promise.Trees.{join, table}
use Rattle.tb_node.specs.Seen.{given_tables, tree_of}
use Rattle.tb_node.specs.declared.nodes.Node.{Join}
use Rattle.tb_front.specs.declared.fault.NodeTitle.TheVariants as title
use Rattle.tb_plan_front.specs.Explained.{line_view, lines_view}
use Rattle.tb_plan_front.specs.Promise.Explained.{alone, left_name, right_name, with_line}
use Rattle.tb_plan_front.specs.declared.explaining.NodeLine.{NodeLine}
use Rattle.tb_plan_front.proofs.Planned.{ends_with, goes_with}
use Rattle.tb_plan_front.proofs.Trees.{join_tree}
use Rattle.tb_plan_front.proofs.explaining.join_explained.Goals as goal

pub returns-in_ok-with_line-in-Ok : goal.returns-in_ok-with_line-in-Ok
returns-in_ok-with_line-in-Ok g c =
    let k = c.args.keys in
    let l = c.args.left.lines.items in
    let r = c.args.right.lines.items in
    let a = c.in_ok-leaf.field-0 in
    let b = c.in_ok-leaf-2.field-0 in
    let t = table_of c.in-Ok.table in
    let both : lines_view c.append.new.self.items ≡ lines_view l ++ lines_view r = ap (λ (ls : List NodeLine). lines_view ls) c.in_ok-append.ensures.items ∙ map-append line_view l r in
    goes_with (given_tables c.in_ok-inputs.inputs.items) ((left_name, table_of c.args.left.table) ∷ (right_name, table_of c.args.right.table) ∷ [])
    (alone (tree_of (Join a b k.left_on k.right_on k.args))) (alone (join (table left_name) (table right_name) k.left_on k.right_on k.args))
    c.in_ok-inputs.ensures (ap alone (join_tree a b k.left_on k.right_on k.args ∙ (λ i. join (c.in_ok-leaf.ensures i) (c.in_ok-leaf-2.ensures i) k.left_on k.right_on k.args)))
    (λ u. Ok (with_line c.args.depth (title.Join k.left_on k.right_on) (lines_view l ++ lines_view r) u)) t c.in-Ok.ensures
    ∙ ap Ok ((λ i. with_line c.args.depth (sym c.in_ok-title.ensures i) (sym both i) t) ∙ sym c.in_ok-with_line-in-Ok.ensures)

pub returns-in-Err : goal.returns-in-Err
returns-in-Err g c =
    let k = c.args.keys in
    let l = c.args.left.lines.items in
    let r = c.args.right.lines.items in
    let a = c.in_ok-leaf.field-0 in
    let b = c.in_ok-leaf-2.field-0 in
    ends_with (given_tables c.in_ok-inputs.inputs.items) ((left_name, table_of c.args.left.table) ∷ (right_name, table_of c.args.right.table) ∷ [])
    (alone (tree_of (Join a b k.left_on k.right_on k.args))) (alone (join (table left_name) (table right_name) k.left_on k.right_on k.args))
    c.in_ok-inputs.ensures (ap alone (join_tree a b k.left_on k.right_on k.args ∙ (λ i. join (c.in_ok-leaf.ensures i) (c.in_ok-leaf-2.ensures i) k.left_on k.right_on k.args)))
    (λ u. Ok (with_line c.args.depth (title.Join k.left_on k.right_on) (lines_view l ++ lines_view r) u)) c.in-Err.fault c.in-Err.ensures
