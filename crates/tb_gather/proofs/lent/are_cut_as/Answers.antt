use Rattle.std.proofs.Common.{◌≡◌, ◌∙◌, Bor, List, sym, ap, subst, refl, arith}
use Rattle.std.specs.List.{All}
use Rattle.std.proofs.lemmas.List.{take_all}
use Rattle.std.proofs.lemmas.List.Elements.{All-map, All-more}
use Rattle.tb_chunk.specs.Promise.Col.{Col}
use Rattle.tb_frame.specs.Frame.{lens}
use Rattle.tb_gather.proofs.Picked.{All-unmap}
use Rattle.tb_gather.proofs.lent.are_cut_as.Goals as goal

pub loop-column-preserved : goal.loop-column-preserved
loop-column-preserved c =
    let column = c.column-item.result in
    let first = c.args.first.now in
    let same : lens column.now ≡ lens first = ap lens (sym c.as_materialized_series.ensures) ∙ (c.if-not-are_cut_alike.ensures.0 refl ∙ ap lens c.as_materialized_series-first.ensures) in
    All-more (λ (b : Bor Col). lens b.now ≡ lens first) c.args.columns.now c.loop-column.column-index column c.loop-column-test.true c.loop-column.invariant (ap (λ (b : Bor Col). lens b.now) (sym c.column-item.is) ∙ same)

pub returns-then-not-are_cut_alike : goal.returns-then-not-are_cut_alike
returns-then-not-are_cut_alike c =
    let cs = c.args.columns.now in
    let first = c.args.first.now in
    let column = c.column-item.result in (
      λ h. absurd (cc),
      λ all.
          let here : lens column.now ≡ lens first = ap (λ (b : Bor Col). lens b.now) c.column-item.is ∙ All-unmap (λ (k : Col). lens k ≡ lens first) (λ (b : Bor Col). b.now) cs all c.loop-column.column-index column c.loop-column-test.true in
          let wrong = c.if-not-are_cut_alike.ensures.1 (ap lens c.as_materialized_series.ensures ∙ here ∙ sym (ap lens c.as_materialized_series-first.ensures)) in
          absurd (cc),
    )

pub returns : goal.returns
returns c =
    let cs = c.args.columns.now in
    let first = c.args.first.now in (
      λ h. All-map (λ (k : Col). lens k ≡ lens first) (λ (b : Bor Col). b.now) cs (subst (λ (bs : List (Bor Col)). All (λ (b : Bor Col). lens b.now ≡ lens first) bs) (take_all c.loop-column.column-index cs (omega arith)) c.loop-column.invariant),
      λ h. refl,
    )
