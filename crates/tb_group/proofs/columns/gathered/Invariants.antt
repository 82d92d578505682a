use Rattle.std.proofs.Common.{◌≡◌, map, take}
use Rattle.tb_agg.specs.Kept.{shown_kept}
use Rattle.tb_group.specs.Parts.{shown_part}
use Rattle.tb_group.specs.Whole.{gathered}
use Rattle.tb_group.proofs.columns.gathered.Given as goal

abbrev pub invariant-loop-part : goal.invariant-loop-part
invariant-loop-part l = shown_kept l.kept ≡ gathered l.fn.agg l.seat (map shown_part (take l.part-index l.parts))
