use Rattle.std.proofs.Common.{◌≡◌, Bor, map, take}
use Rattle.tb_chunk.specs.Promise.Col.{Col}
use Rattle.tb_pivot.proofs.blocks.Layout.index_names.Given as goal

abbrev pub invariant-loop-column : goal.invariant-loop-column
invariant-loop-column l = l.names.items ≡ map (λ (c : Bor Col). c.now.name) (take l.column-index l.self.columns.now.index.items)
