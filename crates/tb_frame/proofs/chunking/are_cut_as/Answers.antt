use Rattle.std.proofs.Common.{◌≡◌, ◌∙◌, List, sym, ap, subst, refl, arith}
use Rattle.std.specs.List.{All}
use Rattle.std.proofs.lemmas.List.{take_all}
use Rattle.std.proofs.lemmas.List.Elements.{All-more}
use Rattle.tb_chunk.specs.Promise.Col.{Col}
use Rattle.tb_frame.specs.Frame.{lens}
use Rattle.tb_frame.proofs.chunking.are_cut_as.Goals as goal

pub loop-column-preserved : goal.loop-column-preserved
loop-column-preserved c =
    let column = c.column-item.result in
    let first = c.args.first.now in
    let same : lens column ≡ lens first = ap lens (sym c.as_materialized_series.ensures) ∙ (c.if-not-are_cut_alike.ensures.0 refl ∙ ap lens c.as_materialized_series-first.ensures) in
    All-more (λ (k : Col). lens k ≡ lens first) c.args.columns.now c.loop-column.column-index column c.loop-column-test.true c.loop-column.invariant (ap lens (sym c.column-item.is) ∙ same)

pub returns : goal.returns
returns c =
    let cs = c.args.columns.now in (
      λ h. subst (λ (ks : List Col). All (λ (k : Col). lens k ≡ lens c.args.first.now) ks) (take_all c.loop-column.column-index cs (omega arith)) c.loop-column.invariant,
      λ h. refl,
    )
