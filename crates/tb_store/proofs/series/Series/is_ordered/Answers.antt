use Rattle.std.proofs.Common.{◌∙◌, ap, sym}
use Rattle.tb_value.specs.Promise.SameKind.{is_key}
use Rattle.tb_cell.specs.Promise.Order.{keeps_order}
use Rattle.tb_chunk.specs.Promise.Col.{concatenation, values}
use Rattle.tb_chunk.proofs.Follow.{keeps_order_decides}
use Rattle.tb_store.proofs.series.Series.is_ordered.Goals as goal

pub returns-then-is_key : goal.returns-then-is_key
returns-then-is_key c =
    let column = c.args.self.now in
    let key = sym (c.is_key.ensures ∙ ap is_key c.dtype.ensures) ∙ c.if-is_key.true in
    let is = c.keeps_order.ensures ∙ ap (λ cs. keeps_order c.args.descending (concatenation cs)) c.chunks.ensures.lists in
    let decides = keeps_order_decides c.args.descending column.kind (values column) key in
    (λ h. decides.0 (sym is ∙ h), λ h. is ∙ decides.1 h)
