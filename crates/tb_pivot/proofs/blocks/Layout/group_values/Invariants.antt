use Rattle.std.proofs.Common.{◌≡◌, drop, take, map}
use Rattle.std.specs.List.{All}
use Rattle.tb_value.specs.Promise.Refusals.{first_cause}
use Rattle.tb_chunk.specs.Lent.{lent_columns}
use Rattle.tb_pivot.specs.Made.{made_cause, IsMade}
use Rattle.tb_pivot.specs.declared.blocks.GroupValues.{GroupValues}
use Rattle.tb_pivot.proofs.blocks.Layout.group_values.Given as goal

-- the value columns so far have their values, and those that are left decide
abbrev pub invariant-loop-value : goal.invariant-loop-value
invariant-loop-value g l =
    let way = g.M.CellMaker.way l.maker in
    let values = l.self.columns.now.values.items in
    (map (λ (b : GroupValues). b.value) l.blocks.items ≡ take l.value-index values)
    × (All (λ (b : GroupValues). IsMade way l.self.cells.groups b.value.now b.made) l.blocks.items
    × (first_cause (map (made_cause way l.self.cells.groups) (lent_columns values)) ≡ first_cause (map (made_cause way l.self.cells.groups) (lent_columns (drop l.value-index values)))))
