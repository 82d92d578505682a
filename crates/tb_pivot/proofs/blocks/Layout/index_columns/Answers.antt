use Rattle.std.proofs.Common.{◌≡◌, ◌≤◌, ◌<◌, ◌∙◌, Bor, List, ℕ, length, map, subst, sym}
use Rattle.std.specs.List.{All}
use Rattle.std.proofs.lemmas.Result.{IfOk-weaker}
use Rattle.tb_value.specs.declared.limits.TheConstants.{MAX_ROWS}
use Rattle.tb_chunk.specs.Promise.Col.{Col, values}
use Rattle.tb_chunk.specs.Lent.{lent_columns}
use Rattle.tb_frame.specs.Frame.{taken_rows}
use Rattle.tb_pivot.proofs.Cell.{rows_low}
use Rattle.tb_pivot.proofs.Columns.{layout_rows, rows_in}
use Rattle.tb_pivot.proofs.blocks.Layout.index_columns.Goals as goal

pub columns_at-requires-clause-rows : goal.columns_at-requires-clause-rows
columns_at-requires-clause-rows c =
    let l = c.args.self.now in
    let rows : List ℕ = l.cells.rows.firsts.items in
    subst (λ (bs : List (Bor Col)). All (λ (b : Bor Col). All (λ r. r < length (values b.now)) c.answer_rows.result.now) bs) (sym c.deref.ensures.value)
    (subst (λ (rs : List ℕ). All (λ (b : Bor Col). All (λ r. r < length (values b.now)) rs) l.columns.now.index.items) (sym c.answer_rows.ensures)
    (rows_in l.columns.now.index.items rows l.height c.requires.high.index (rows_low _ _ l.height l.cells c.requires.cells c.requires.few)))

pub columns_at-requires-clause-few : goal.columns_at-requires-clause-few
columns_at-requires-clause-few c = subst (λ (rs : List ℕ). length rs ≤ MAX_ROWS) (sym c.answer_rows.ensures) (layout_rows c.args.self.now c.requires)

pub returns : goal.returns
returns c =
    let l = c.args.self.now in
    let same : map (taken_rows c.answer_rows.result.now) (lent_columns c.deref.result.now) ≡ map (taken_rows l.cells.rows.firsts.items) (lent_columns l.columns.now.index.items) = λ t. map (taken_rows (c.answer_rows.ensures t)) (lent_columns (c.deref.ensures.value t)) in
    IfOk-weaker c.columns_at.result _ _ (λ v is. is ∙ same) c.columns_at.ensures
