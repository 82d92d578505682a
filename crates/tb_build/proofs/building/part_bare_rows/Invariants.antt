use Rattle.std.proofs.Common.{◌≡◌, take}
use Rattle.std.specs.List.{flat_map}
use Rattle.tb_build.specs.Pieces.{PiecesView}
use Rattle.tb_build.proofs.building.part_bare_rows.Given as goal

abbrev pub invariant-loop-portion : goal.invariant-loop-portion
invariant-loop-portion g l = l.rows.items ≡ flat_map (λ (v : PiecesView g.row.K.Denot). v.bare) (take l.portion-index l.portions)
