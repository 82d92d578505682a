use Rattle.std.proofs.Common.{◌≡◌, ◌*◌, eqb, length, map}
use Rattle.tb_value.specs.Promise.Pairs.{row_numbers}
use Rattle.tb_pivot.specs.Grid.{group_cell, last_below}
use Rattle.tb_pivot.proofs.grid.grid_of.Given as goal

-- the groups so far stand in their cells
abbrev pub invariant-loop-group : goal.invariant-loop-group
invariant-loop-group l = l.cells.items ≡ map (λ j. last_below (λ k. eqb (group_cell l.groups l.rows l.headers k) j) l.group) (row_numbers (length l.headers.firsts.items * length l.rows.firsts.items))
