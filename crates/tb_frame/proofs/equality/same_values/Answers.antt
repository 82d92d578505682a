use Rattle.std.proofs.Common.{◌≡◌, ◌∙◌, ℕ, ap, sym, refl, get_or, arith, below_more}
use Rattle.std.proofs.lemmas.List.{ext_get_or}
use Rattle.tb_value.specs.Promise.Datum.{null}
use Rattle.tb_value.specs.See.{lent_value}
use Rattle.tb_chunk.specs.Promise.Col.{values}
use Rattle.tb_frame.proofs.Equal.{equal-same, differ-same}
use Rattle.tb_frame.proofs.equality.same_values.Goals as goal

pub returns-then-not-same_value : goal.returns-then-not-same_value
returns-then-not-same_value c =
    let row = c.loop-row.row in (
      λ h. absurd (cc),
      λ e. absurd (differ-same (lent_value c.get.result) (lent_value c.get-in-loop-row.result) c.if-not-same_value.ensures (c.get.ensures.value ∙ ap (λ vs. get_or vs row null) e ∙ sym c.get-in-loop-row.ensures.value)),
    )

pub loop-row-preserved : goal.loop-row-preserved
loop-row-preserved c =
    let xs = values c.args.first.now in
    let ys = values c.args.second.now in
    let row = c.loop-row.row in
    let here : get_or xs row null ≡ get_or ys row null = sym c.get.ensures.value ∙ equal-same (lent_value c.get.result) (lent_value c.get-in-loop-row.result) c.if-not-same_value.ensures ∙ c.get-in-loop-row.ensures.value in
    below_more (λ (k : ℕ). get_or xs k null ≡ get_or ys k null) row c.loop-row.invariant here

pub returns : goal.returns
returns c =
    let long = c.len-len.ensures.len in
    let other = c.len.ensures.len in (
      λ h. ext_get_or null (values c.args.first.now) (values c.args.second.now) (omega arith) (λ k low. c.loop-row.invariant k (omega arith)),
      λ e. refl,
    )
