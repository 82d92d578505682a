use Rattle.std.proofs.Common.{arith, ◌≤◌, ◌<◌, ◌∙◌, ◌++◌, ◌∷◌, [], length, sym, ap}
use Rattle.std.proofs.lemmas.List.{append-nil}
use Rattle.tb_view.proofs.Lists.{one_taken, none_taken}
use Rattle.tb_view.proofs.view_chunk.ViewChunk.add_buffer.Goals as goal

pub returns-then-number-len-clause-buffers : goal.returns-then-number-len-clause-buffers
returns-then-number-len-clause-buffers c =
    let held = c.args.self.now.buffers.items in
    let others = c.args.other.now.buffers.items in
    let past : length others ≤ c.args.number = omega (arith, c.if-number-len.true, c.len.ensures) in
    sym (ap (λ bs. held ++ bs) (none_taken others c.args.number past) ∙ append-nil held)

pub returns-clause-buffers : goal.returns-clause-buffers
returns-clause-buffers c =
    let others = c.args.other.now.buffers.items in
    let low : c.args.number < length others = omega (arith, c.if-number-len.false, c.len.ensures) in
    let one = one_taken others c.args.number c.index.result.now low in
    let held = c.args.self.now.buffers.items in
    c.in_ok-push.ensures.items ∙ ap (λ b. held ++ b ∷ []) (c.in_ok-buffer.ensures ∙ c.index.ensures) ∙ ap (λ bs. held ++ bs) (sym one)
