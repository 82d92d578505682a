use Rattle.std.proofs.Common.{◌≡◌, ◌∙◌, ◌↔◌, List, IsTrue, ap, subst}
use Rattle.std.specs.Prelude.{All}
use Rattle.std.specs.List.{slice_get}
use Rattle.tb_chunk.specs.Promise.Col.{Col}
use Rattle.tb_frame.specs.Frame.{lens, AreCutAlike}
use Rattle.tb_frame.proofs.Cuts.{alike-by_first, not-alike}
use Rattle.tb_frame.proofs.frame.DataFrame.should_rechunk.Goals as goal

pub returns-in-Some : goal.returns-in-Some
returns-in-Some c =
    let same = c.deref.ensures.value ∙ c.self.view_is in
    let again = c.deref-in-Some.ensures.value ∙ c.self.view_is in
    let first = c.in-Some.first.now in
    let by_first = alike-by_first c.args.self.now first (c.in-Some.ensures.value ∙ ap (λ (cs : List Col). slice_get cs 0) same) in
    let cut = subst (λ (cs : List Col). IsTrue c.are_cut_as.result ↔ All (λ (k : Col). lens k ≡ lens first) cs) again c.are_cut_as.ensures in
    not-alike (AreCutAlike c.args.self.now) c.are_cut_as.result (λ t. by_first.0 (cut.0 t), λ a. cut.1 (by_first.1 a))
