use Rattle.std.proofs.Common.{◌≡◌, Some, map, take}
use Rattle.tb_asked.specs.Options.{type_given, typed_name}
use Rattle.tb_asked.proofs.options.types_of.Given as goal

abbrev pub invariant-loop-word : goal.invariant-loop-word
invariant-loop-word l =
    map Some (map typed_name l.types.items)
    ≡ map type_given (map (λ w. w.now) (take l.word-index l.word-items))
