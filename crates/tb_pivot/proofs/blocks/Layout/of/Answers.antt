use Rattle.std.proofs.Common.{◌<◌, Bor, List, ℕ, length, subst, sym}
use Rattle.std.specs.List.{All}
use Rattle.tb_chunk.specs.Promise.Col.{Col, values}
use Rattle.tb_pivot.proofs.Cell.{headers_low}
use Rattle.tb_pivot.proofs.Columns.{each_has}
use Rattle.tb_pivot.proofs.blocks.Layout.of.Goals as goal

pub texts_at-requires : goal.texts_at-requires
texts_at-requires c =
    let cells = c.in_ok-cells.cells in
    let on : List (Bor Col) = c.args.columns.now.on.items in
    subst (λ (rows : List ℕ). All (λ r. All (λ (b : Bor Col). r < length (values b.now)) c.deref.result.now) rows) (sym c.header_rows.ensures)
    (subst (λ (bs : List (Bor Col)). All (λ r. All (λ (b : Bor Col). r < length (values b.now)) bs) cells.headers.firsts.items) (sym c.deref.ensures.value)
    (each_has on cells.headers.firsts.items c.args.height c.requires.high.on (headers_low _ _ c.args.height cells c.in_ok-cells.ensures c.requires.few)))
