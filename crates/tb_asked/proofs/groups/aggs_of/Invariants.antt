use Rattle.std.proofs.Common.{◌≡◌, Some, map, take}
use Rattle.tb_group_front.specs.Promise.Words.{agg_of_word}
use Rattle.tb_asked.proofs.groups.aggs_of.Given as goal

abbrev pub invariant-loop-word : goal.invariant-loop-word
invariant-loop-word l =
    map Some l.aggs.items ≡ map agg_of_word (map (λ w. w.now) (take l.word-index l.word-items))
