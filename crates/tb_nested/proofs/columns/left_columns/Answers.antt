use Rattle.std.proofs.Common.{sym, subst, ◌∙◌}
use Rattle.std.specs.Prelude.{All, length}
use Rattle.tb_chunk.specs.Promise.Col.{Col, values}
use Rattle.tb_chunk.specs.Lent.{lent_columns}
use Rattle.tb_chunk.specs.Rows.{IsRowOf}
use Rattle.tb_frame.specs.Promise.Naming.{coalesces, coalesces_keys}
use Rattle.tb_keys.specs.Asked.{asked_request}
use Rattle.tb_keys.proofs.CoalescedKeys.{merged_holds}
use Rattle.tb_nested.proofs.columns.left_columns.Goals as goal

pub left_column-requires-clause-left_rows : goal.left_column-requires-clause-left_rows
left_column-requires-clause-left_rows c =
    subst (λ (k : Col). All (IsRowOf (length (values k))) c.args.left_rows.now) (sym c.column-item.is)
    (c.requires.left_rows c.loop-column.column-index c.column-item.result c.loop-column-test.true)

pub left_column-requires-clause-right_rows : goal.left_column-requires-clause-right_rows
left_column-requires-clause-right_rows c =
    let r = c.args.request.now in
    λ k e. merged_holds (λ (x : Col). All (IsRowOf (length (values x))) c.args.right_rows.now) (coalesces_keys r.how (coalesces (asked_request r).args)) r.left_on.now
    (lent_columns r.right_keys.now) c.name.result.now c.requires.right_rows k (sym c.coalesced_key-key.ensures ∙ e)
