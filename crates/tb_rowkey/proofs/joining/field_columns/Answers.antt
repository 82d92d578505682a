use Rattle.std.proofs.Common.{List, Option, get_or, ap, ◌∙◌, sym}
use Rattle.std.proofs.lemmas.List.{get_or-map}
use Rattle.tb_chunk.specs.Promise.Col.{Col}
use Rattle.tb_chunk.proofs.Lent.{lent_is, low_lent}
use Rattle.tb_rowkey.specs.Columns.{lent_columns}
use Rattle.tb_rowkey.specs.FieldColumns.{joined_if_cut}
use Rattle.tb_rowkey.proofs.joining.field_columns.Goals as goal

pub field_column-requires : goal.field_column-requires
field_column-requires c =
    let rs = c.args.columns.now in
    let n = c.loop-place.place in
    let r = c.index-columns-place.result in
    let low = low_lent rs n r c.loop-place-test.true c.index-columns-place.is in
    c.index-joined-place.is
    ∙ ap (λ (l : List (Option Col)). get_or l n c.index-joined-place.result) c.requires
    ∙ get_or-map joined_if_cut (lent_columns rs) n r.now c.index-joined-place.result low
    ∙ ap joined_if_cut (sym (lent_is rs n r c.loop-place-test.true c.index-columns-place.is))
