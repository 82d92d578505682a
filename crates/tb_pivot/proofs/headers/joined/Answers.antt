use Rattle.std.proofs.Common.{◌∙◌, List, ◌∷◌, ◌++◌, ℕ, get_or, take, sym, ap}
use Rattle.std.specs.List.{join_with_byte}
use Rattle.std.specs.String.{string_bytes}
use Rattle.std.proofs.lemmas.List.{take_more}
use Rattle.tb_pivot.proofs.Texts.{joined_more}
use Rattle.tb_pivot.proofs.headers.joined.Goals as goal

pub loop-text-preserved : goal.loop-text-preserved
loop-text-preserved c =
    let first = c.args.first.now in
    let rest = c.args.rest.now in
    let i = c.loop-text.text-index in
    let x = c.text-item.result in
    c.in_ok-push_next.ensures
    ∙ ap (λ (t : List ℕ). string_bytes c.loop-text.joined ++ (44 ∷ t)) c.text-item.is
    ∙ ap (λ (j : List ℕ). j ++ (44 ∷ get_or rest i x)) c.loop-text.invariant
    ∙ sym (joined_more first (take i rest) (get_or rest i x))
    ∙ ap (λ (l : List (List ℕ)). join_with_byte 44 (first ∷ l)) (sym (take_more rest i x c.loop-text-test.true))
