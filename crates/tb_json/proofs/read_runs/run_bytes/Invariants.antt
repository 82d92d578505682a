use Rattle.std.proofs.Common.{map}
use Rattle.tb_value.specs.Promise.Datum.{binary}
use Rattle.tb_value.specs.Promise.Kind as kind
use Rattle.tb_chunk.specs.Chunk.{or_null}
use Rattle.tb_json.proofs.RunWalks.{RunsWalk}
use Rattle.tb_json.proofs.read_runs.run_bytes.Given as goal

abbrev pub invariant-loop-run : goal.invariant-loop-run
invariant-loop-run l = RunsWalk kind.binary l.runs (map (or_null binary) l.builder.rows) l.run-index
