use Rattle.std.proofs.Common.{map}
use Rattle.std.specs.List.{All}
use Rattle.tb_value.specs.Promise.Typed.{HasType}
use Rattle.tb_value.specs.SeeKind.{kind_of}
use Rattle.tb_chunk.specs.Chunk.{or_null}
use Rattle.tb_json.proofs.RunWalks.{RunsWalk}
use Rattle.tb_json.proofs.read_runs.run_cells.Given as goal

abbrev pub invariant-loop-run : goal.invariant-loop-run
invariant-loop-run g l = record {
  walked : RunsWalk (kind_of l.dtype) l.runs (map (or_null g.N.Cell.shows) l.cells) l.run-index;
  typed : All (HasType (kind_of l.dtype)) (map (or_null g.N.Cell.shows) l.cells);
}
