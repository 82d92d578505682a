use Rattle.std.proofs.Common.{◌≡◌, take, map}
use Rattle.tb_chunk.specs.Promise.Col.{Col}
use Rattle.tb_keys.specs.Coalescing.{coalescing_key, left_column}
use Rattle.tb_nested.proofs.columns.left_columns.Given as goal

abbrev pub invariant-loop-column : goal.invariant-loop-column
invariant-loop-column l = l.made.items ≡ map (λ (c : Col). left_column l.left_rows l.right_rows (coalescing_key l.request c.name) c) (take l.column-index l.columns)
