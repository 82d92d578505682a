use Rattle.std.proofs.Common.{◌≡◌, ◌∙◌, ◌<◌, [], ◌∷◌, List, ap, get_or, length, map, subst, sym, take}
use Rattle.std.proofs.lemmas.List.{get_or-map}
use Rattle.std.proofs.lemmas.List.Sums.{fold-append}
use Rattle.tb_agg.specs.Kept.{KeptView, all_joined, joined, nothing, shown_kept}
use Rattle.tb_agg.specs.declared.kept.Kept.{Kept}
use Rattle.tb_group.specs.Parts.{PartView, shown_part}
use Rattle.tb_group.specs.declared.part.PartGroups.{PartGroups}
use Rattle.tb_group.proofs.Pieces.{mapped_more}
use Rattle.tb_group.proofs.columns.gathered.Goals as goal

pub loop-part-preserved : goal.loop-part-preserved
loop-part-preserved c =
    let agg = c.args.agg in
    let seat = c.args.seat in
    let parts = c.args.parts.now in
    let i = c.loop-part.part-index in
    let p = c.part-item.result in
    let r = c.index-kept-seat.result in
    let keep : PartView → KeptView = λ v. get_or v.kept seat (nothing agg) in
    let low : seat < length p.kept.items = subst (λ (q : PartGroups). seat < length q.kept.items) (sym c.part-item.is) (c.requires i p c.loop-part-test.true) in
    let own : keep (shown_part p) ≡ shown_kept r =
    get_or-map shown_kept p.kept.items seat r (nothing agg) low
    ∙ ap shown_kept (sym (c.index-kept-seat.is ∙ ap (λ (l : List Kept). get_or l seat r) c.kept.ensures)) in
    c.in_ok-append.ensures
    ∙ (λ t. joined (c.loop-part.invariant t) (sym own t))
    ∙ sym (ap (all_joined agg) (mapped_more shown_part keep parts i p c.loop-part-test.true c.part-item.is)
    ∙ fold-append joined (nothing agg) (map keep (map shown_part (take i parts))) (keep (shown_part p) ∷ []))
