use Rattle.std.proofs.Common.{[], ◌∷◌, ◌++◌, map, ap, sym, ◌∙◌}
use Rattle.std.proofs.lemmas.List.{map-append}
use Rattle.tb_value.specs.Promise.Pairs.{row_numbers}
use Rattle.tb_value.proofs.RowNumbers.{row_numbers_more}
use Rattle.tb_frame.specs.Promise.Join.{flag_at}
use Rattle.tb_frame.proofs.null_flags.JoinNulls.flags.Goals as goal

pub loop-place-preserved : goal.loop-place-preserved
loop-place-preserved c =
    let f = flag_at c.args.self.now in
    c.in_ok-push.ensures.items
    ∙ (λ t. c.loop-place.invariant t ++ c.flag_at.ensures t ∷ [])
    ∙ sym (ap (map f) (row_numbers_more c.loop-place.place) ∙ map-append f (row_numbers c.loop-place.place) (c.loop-place.place ∷ []))
