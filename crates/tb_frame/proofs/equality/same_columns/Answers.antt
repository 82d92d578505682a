use Rattle.std.proofs.Common.{◌≡◌, ◌∙◌, ℕ, ap, sym, refl, get_or, arith, below_more}
use Rattle.std.proofs.lemmas.List.{get_or_default}
use Rattle.tb_chunk.specs.Promise.Col.{Col}
use Rattle.tb_frame.specs.Promise.Table.{plain_column}
use Rattle.tb_frame.proofs.Equal.{table-ext, plain-at}
use Rattle.tb_frame.proofs.equality.same_columns.Goals as goal

pub returns-then-not-same_column : goal.returns-then-not-same_column
returns-then-not-same_column c = (
  λ h. absurd (cc),
  λ e. c.if-not-same_column.ensures.1 (plain-at c.args.first.now c.args.second.now c.loop-i.i c.index-first-i.result c.index-second-i.result c.loop-i-test.true (omega arith) c.index-first-i.is c.index-second-i.is e),
)

pub loop-i-preserved : goal.loop-i-preserved
loop-i-preserved c =
    let xs = c.args.first.now in
    let ys = c.args.second.now in
    let i = c.loop-i.i in
    let x = c.index-first-i.result in
    let y = c.index-second-i.result in
    let here : (d : Col) → plain_column (get_or xs i d) ≡ plain_column (get_or ys i d) = λ d.
    ap plain_column (get_or_default xs i d x c.loop-i-test.true ∙ sym c.index-first-i.is)
    ∙ c.if-not-same_column.ensures.0 refl
    ∙ ap plain_column (c.index-second-i.is ∙ sym (get_or_default ys i d y (omega arith))) in
    λ k d low. below_more (λ (j : ℕ). plain_column (get_or xs j d) ≡ plain_column (get_or ys j d)) i (λ j h. c.loop-i.invariant j d h) (here d) k low

pub returns : goal.returns
returns c = (
  λ h. table-ext c.args.first.now c.args.second.now (omega arith) (λ k d low. c.loop-i.invariant k d (omega arith)),
  λ e. refl,
)
