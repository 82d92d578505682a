use Rattle.std.proofs.Common.{◌≡◌, ◌∙◌, ◌+◌, ◌-◌, ◌∷◌, ◌++◌, [], ℕ, List, ap, get_or, sym, arith}
use Rattle.std.proofs.lemmas.List.FromFn.{map-range_with_len_more}
use Rattle.tb_group.proofs.parts.lengths_between.Goals as goal

pub loop-place-preserved : goal.loop-place-preserved
loop-place-preserved c =
    let n = c.loop-place.place in
    let starts = c.args.starts.now in
    let f : ℕ → ℕ = λ p. get_or starts (p + 1) 0 - get_or starts p 0 in
    let at : 0 + n ≡ n = omega arith in
    c.in_ok-push.ensures.items ∙ ap (λ (l : List ℕ). l ++ f n ∷ []) c.loop-place.invariant ∙ sym (map-range_with_len_more f 0 n n at)
