use Rattle.std.proofs.Common.{◌≡◌, map, drop}
use Rattle.tb_value.specs.SeeKind.{kind_of}
use Rattle.tb_json.specs.Promise.Text.{value_data}
use Rattle.tb_json.specs.Written.{with_items}
use Rattle.tb_json.proofs.write_tables.push_chunk.Given as goal

-- what is written, and what is left
abbrev pub invariant-loop-row : goal.invariant-loop-row
invariant-loop-row g l = with_items (l.text, l.later) (drop l.row (map (value_data (kind_of l.dtype)) (g.C.Chunk.shown l.chunk))) ≡ with_items (l.initial.text, l.initial.later) (map (value_data (kind_of l.dtype)) (g.C.Chunk.shown l.chunk))
