use Rattle.std.proofs.Common.{◌≡◌, ◌++◌, Bor, map, take}
use Rattle.std.specs.List.{flat_map}
use Rattle.tb_chunk.specs.Promise.Col.{Col}
use Rattle.tb_pivot.specs.Layout.{block_names}
use Rattle.tb_pivot.proofs.blocks.Layout.answer_names.Given as goal

abbrev pub invariant-loop-value : goal.invariant-loop-value
invariant-loop-value l = l.names.items ≡ map (λ (c : Bor Col). c.now.name) l.self.columns.now.index.items ++ flat_map (λ (c : Bor Col). block_names l.self c.now.name) (take l.value-index l.self.columns.now.values.items)
