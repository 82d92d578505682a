use Rattle.std.proofs.Common.{arith, ◌≡◌, ◌∙◌, ◌++◌, ap, map, replicate}
use Rattle.tb_chunk.specs.Chunk.{or_null}
use Rattle.tb_json.proofs.read_runs.push_copies.Goals as goal

pub returns : goal.returns
returns g c =
    let all : c.loop.counter ≡ c.args.times = omega arith in
    c.loop.invariant ∙ ap (λ n. map (or_null g.N.Cell.shows) c.args.cells.now ++ replicate n (or_null g.N.Cell.shows c.args.cell.now)) all
