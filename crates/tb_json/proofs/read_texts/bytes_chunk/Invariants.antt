use Rattle.std.proofs.Common.{map}
use Rattle.tb_tree.specs.View.{view}
use Rattle.tb_value.specs.Promise.Datum.{binary}
use Rattle.tb_value.specs.Promise.Kind as kind
use Rattle.tb_chunk.specs.Chunk.{or_null}
use Rattle.tb_json.specs.Promise.Cells.{cell_in}
use Rattle.tb_json.proofs.LentValues.{ItemsWalk}
use Rattle.tb_json.proofs.read_texts.bytes_chunk.Given as goal

abbrev pub invariant-loop-i : goal.invariant-loop-i
invariant-loop-i l = ItemsWalk (cell_in kind.binary) l.items (map (or_null binary) l.builder.rows) l.i
