use Rattle.std.proofs.Common.{◌≡◌, map, take}
use Rattle.tb_words.specs.Words.{name_in}
use Rattle.tb_words.proofs.names.names_of.Given as goal

abbrev pub invariant-loop-word : goal.invariant-loop-word
invariant-loop-word l = l.names.items ≡ map (name_in l.part) (map (λ w. w.now) (take l.word-index l.word-items))
