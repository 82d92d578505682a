use Rattle.std.proofs.Common.{◌≡◌, Bor, List, [], ◌∷◌, None, refl, arith}
use Rattle.std.specs.List.{slice_get}
use Rattle.tb_chunk.specs.Promise.Col.{Col}
use Rattle.tb_chunk.specs.Lent.{lent_columns}
use Rattle.tb_frame.specs.Frame.{AreCutAlike}
use Rattle.tb_frame.proofs.Cuts.{alike-by_first}
use Rattle.tb_gather.proofs.Serving.{first_lent}
use Rattle.tb_gather.proofs.lent.are_all_cut_alike.Goals as goal

none_alike : (bs : List (Bor Col)) → None ≡ slice_get bs 0 → AreCutAlike (lent_columns bs)
none_alike [] is = λ i j d low high. absurd (omega arith)
none_alike (b ∷ bs) is = absurd (cc)

pub returns-in-None : goal.returns-in-None
returns-in-None c = (λ h. none_alike c.args.columns.now c.in-None.ensures.value, λ h. refl)

pub returns-in-Some : goal.returns-in-Some
returns-in-Some c =
    let cs = lent_columns c.args.columns.now in
    let by_first = alike-by_first cs c.in-Some.first.now.now (first_lent c.args.columns.now c.in-Some.first.now c.in-Some.ensures.value) in
    (λ h. by_first.0 (c.are_cut_as.ensures.0 h), λ alike. c.are_cut_as.ensures.1 (by_first.1 alike))
