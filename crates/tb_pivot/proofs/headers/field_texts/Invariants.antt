use Rattle.std.proofs.Common.{◌≡◌, map, take}
use Rattle.tb_chunk.specs.Promise.Col.{values}
use Rattle.tb_rows.specs.Promise.Rows.{row_value}
use Rattle.tb_pivot.specs.Promise.Headers.{field_text}
use Rattle.tb_pivot.proofs.headers.field_texts.Given as goal

abbrev pub invariant-loop-column : goal.invariant-loop-column
invariant-loop-column l = l.texts.items ≡ map (λ c. field_text (row_value (values c.now) l.row)) (take l.column-index l.columns)
