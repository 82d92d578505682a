use Rattle.std.proofs.Common.{◌≡◌, map, take}
use Rattle.tb_agg.specs.Kept.{shown_kept}
use Rattle.tb_group.specs.Asked.{asked_list}
use Rattle.tb_group.specs.Parts.{kept_for, rows_in_groups}
use Rattle.tb_group.proofs.part.part_kept.Given as goal

abbrev pub invariant-loop-one : goal.invariant-loop-one
invariant-loop-one l = map shown_kept l.kept.items ≡ kept_for (asked_list (take l.one-index l.asked)) (rows_in_groups l.rows l.groups)
