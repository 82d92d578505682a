use Rattle.std.proofs.Common.{ℕ, List, ◌++◌, ◌∷◌, [], sym, ap, ◌∙◌, arith}
use Rattle.std.proofs.lemmas.List.FromFn.{map-range_with_len_more}
use Rattle.tb_pool.specs.Portions.{portion_of}
use Rattle.tb_pool.proofs.cuts.portions.Goals as goal

pub loop-i-preserved : goal.loop-i-preserved
loop-i-preserved c =
    c.in_ok-push.ensures.items
    ∙ ap (λ (p : ℕ × ℕ). c.loop-i.all.items ++ p ∷ []) c.portion.ensures
    ∙ ap (λ (l : List (ℕ × ℕ)). l ++ portion_of c.args.len c.args.n c.loop-i.i ∷ []) c.loop-i.invariant
    ∙ sym (map-range_with_len_more (portion_of c.args.len c.args.n) 0 c.loop-i.i c.loop-i.i (omega arith))
