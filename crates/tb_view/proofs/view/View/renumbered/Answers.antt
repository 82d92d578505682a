use Rattle.std.proofs.Common.{arith, ◌∷◌, [], ap, refl, slice_index_or}
use Rattle.tb_view.proofs.Moved.{renumbered-by}
use Rattle.tb_view.proofs.view.View.renumbered.Goals as goal

pub returns-clause-whole : goal.returns-clause-whole
returns-clause-whole c =
    let v = c.args.self.now in
    let b = c.to_le_bytes.result in
    renumbered-by v _ c.args.buffer (slice_index_or b 0 0) (slice_index_or b 1 0) (slice_index_or b 2 0) (slice_index_or b 3 0) (omega arith) (ap (λ l. slice_index_or l 0 0 ∷ slice_index_or l 1 0 ∷ slice_index_or l 2 0 ∷ slice_index_or l 3 0 ∷ []) c.to_le_bytes.ensures) refl refl
