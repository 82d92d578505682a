use Rattle.std.proofs.Common.{◌≡◌, Some, map, take}
use Rattle.tb_asked.specs.Plans.{file_named, named_file}
use Rattle.tb_asked.proofs.plans.files_of.Given as goal

abbrev pub invariant-loop-word : goal.invariant-loop-word
invariant-loop-word l =
    map Some (map named_file l.files.items)
    ≡ map file_named (map (λ w. w.now) (take l.word-index l.word-items))
