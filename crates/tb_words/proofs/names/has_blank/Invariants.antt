use Rattle.std.proofs.Common.{◌≡◌, drop, map}
use Rattle.std.specs.List.{list_any}
use Rattle.tb_words.specs.Words.{is_blank}
use Rattle.tb_words.proofs.names.has_blank.Given as goal

-- the words that are left decide
abbrev pub invariant-loop-word : goal.invariant-loop-word
invariant-loop-word l =
    list_any is_blank (map (λ w. w.now) l.words)
    ≡ list_any is_blank (map (λ w. w.now) (drop l.word-index l.words))
