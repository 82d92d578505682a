use Rattle.std.proofs.Common.{◌≡◌, ◌++◌, map, replicate}
use Rattle.tb_chunk.specs.Chunk.{or_null}
use Rattle.tb_json.proofs.read_runs.push_copies.Given as goal

abbrev pub invariant-loop : goal.invariant-loop
invariant-loop g l = map (or_null g.N.Cell.shows) l.cells ≡ map (or_null g.N.Cell.shows) l.initial.cells ++ replicate l.counter (or_null g.N.Cell.shows l.cell)
