use Rattle.std.proofs.Common.{◌≡◌, ◌++◌, take, map}
use Rattle.std.specs.List.{flat_map}
use Rattle.tb_chunk.specs.Lent.{lent_columns}
use Rattle.tb_frame.specs.Frame.{taken_rows}
use Rattle.tb_frame.specs.Promise.Table.{table_of}
use Rattle.tb_pivot.specs.Layout.{laid_block}
use Rattle.tb_pivot.specs.declared.blocks.GroupValues.{GroupValues}
use Rattle.tb_pivot.proofs.blocks.Layout.columns.Given as goal

-- the blocks so far stand behind the index
abbrev pub invariant-loop-block : goal.invariant-loop-block
invariant-loop-block l =
    table_of l.columns.items ≡ table_of (map (taken_rows l.self.cells.rows.firsts.items) (lent_columns l.self.columns.now.index.items)) ++ flat_map (λ (b : GroupValues). laid_block l.self b.value.now b.made) (take l.block-index l.blocks)
