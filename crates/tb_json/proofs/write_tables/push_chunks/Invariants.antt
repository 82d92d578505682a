use Rattle.std.proofs.Common.{◌≡◌, false, map, drop}
use Rattle.std.specs.List.{All}
use Rattle.tb_value.specs.SeeKind.{kind_of}
use Rattle.tb_value.specs.Promise.Typed.{HasType}
use Rattle.tb_chunk.specs.Promise.Col.{concatenation}
use Rattle.tb_json.specs.Promise.Text.{value_data}
use Rattle.tb_json.specs.Written.{with_items}
use Rattle.tb_json.proofs.write_tables.push_chunks.Given as goal

-- what is written, and what is left
abbrev pub invariant-loop-chunk : goal.invariant-loop-chunk
invariant-loop-chunk g l = record {
  same : with_items (l.text, l.later) (map (value_data (kind_of l.dtype)) (concatenation (map g.C.Chunk.shown (drop l.chunk-index l.chunks)))) ≡ with_items (l.initial.text, false) (map (value_data (kind_of l.dtype)) (concatenation (map g.C.Chunk.shown l.chunks)));
  typed : All (HasType (kind_of l.dtype)) (concatenation (map g.C.Chunk.shown (drop l.chunk-index l.chunks)));
}
