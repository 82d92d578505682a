use Rattle.std.proofs.Common.{◌≡◌, ◌∙◌, ◌*◌, ℕ, eqb, length, None, map, replicate, ap, set, arith}
use Rattle.tb_value.specs.Promise.Pairs.{row_numbers}
use Rattle.tb_pivot.specs.Grid.{group_cell, last_below}
use Rattle.tb_pivot.proofs.Placed.{group_more, no_group}
use Rattle.tb_pivot.proofs.grid.grid_of.Goals as goal

pub loop-group-init : goal.loop-group-init
loop-group-init c =
    let cells : ℕ = length c.args.headers.now.firsts.items * length c.args.rows.now.firsts.items in
    c.in_ok-cells.ensures.items_if_clones_equal (λ y h. h) ∙ ap (λ n. replicate n c.null.result) c.cell_count-count.ensures ∙ ap (replicate cells) c.null.ensures ∙ no_group None 0 cells

pub loop-group-preserved : goal.loop-group-preserved
loop-group-preserved c =
    let cells : ℕ = length c.args.headers.now.firsts.items * length c.args.rows.now.firsts.items in
    ap (set c.loop-group.cells.items c.group_cell-cell.result) c.some.ensures
    ∙ group_more (group_cell c.args.groups.now c.args.rows.now c.args.headers.now) cells c.loop-group.group c.group_cell-cell.result c.loop-group.cells.items c.loop-group.invariant c.group_cell-cell.ensures.cell c.group_cell-cell.ensures.within

pub returns : goal.returns
returns c =
    let cells : ℕ = length c.args.headers.now.firsts.items * length c.args.rows.now.firsts.items in
    let done : c.loop-group.group ≡ length c.args.groups.now.firsts.items = omega (arith, ap length c.firsts-group-end.ensures) in
    c.loop-group.invariant ∙ ap (λ n. map (λ j. last_below (λ k. eqb (group_cell c.args.groups.now c.args.rows.now c.args.headers.now k) j) n) (row_numbers cells)) done
