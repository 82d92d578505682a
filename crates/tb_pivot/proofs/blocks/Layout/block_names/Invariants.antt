use Rattle.std.proofs.Common.{◌≡◌, length, map, take}
use Rattle.tb_pivot.specs.Promise.Headers.{block_name}
use Rattle.tb_pivot.proofs.blocks.Layout.block_names.Given as goal

abbrev pub invariant-loop-text : goal.invariant-loop-text
invariant-loop-text l = l.names.items ≡ map (block_name (length l.self.columns.now.values.items) l.self.separator.now l.value) (take l.text-index l.self.texts.items)
