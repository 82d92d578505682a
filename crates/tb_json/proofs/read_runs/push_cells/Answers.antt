use Rattle.std.proofs.Common.{◌≡◌, ◌++◌, ◌∷◌, [], ◌-◌, map, refl, arith}
use Rattle.std.proofs.lemmas.List.{map_push}
use Rattle.tb_chunk.specs.Chunk.{or_null}
use Rattle.tb_json.proofs.Pushed.{one_more}
use Rattle.tb_json.proofs.read_runs.push_cells.Goals as goal

pub returns : goal.returns
returns g c =
    let f = or_null g.N.Cell.shows in
    let last : map f c.push.new.self ≡ map f c.push_copies.new.cells ++ f c.args.cell ∷ [] = rw (c.in_ok-push.ensures.ok, map_push) refl in
    one_more (map f c.args.cells.now) (map f c.push_copies.new.cells) (map f c.push.new.self) (f c.args.cell) (c.args.times - 1) c.args.times (omega arith) c.in_ok-push_copies.ensures last
