use Rattle.std.proofs.Common.{List, Option, get_or, ap, ◌∙◌, sym}
use Rattle.std.proofs.lemmas.List.{get_or-map}
use Rattle.tb_chunk.specs.Lent.{lent_columns}
use Rattle.tb_chunk.specs.Promise.Col.{Col}
use Rattle.tb_chunk.proofs.Lent.{lent_is, low_lent}
use Rattle.tb_rowkey.specs.FieldColumns.{joined_if_cut}
use Rattle.tb_group.proofs.Pieces.{whole_more}
use Rattle.tb_group.proofs.whole.whole_columns.Goals as goal

pub whole_column-requires : goal.whole_column-requires
whole_column-requires c =
    let rs = c.args.columns.now in
    let n = c.loop-place.place in
    let r = c.index-columns-place.result in
    let low = low_lent rs n r c.loop-place-test.true c.index-columns-place.is in
    c.index-joined-place.is
    ∙ ap (λ (l : List (Option Col)). get_or l n c.index-joined-place.result) c.requires
    ∙ get_or-map joined_if_cut (lent_columns rs) n r.now c.index-joined-place.result low
    ∙ ap joined_if_cut (sym (lent_is rs n r c.loop-place-test.true c.index-columns-place.is))

pub loop-place-preserved : goal.loop-place-preserved
loop-place-preserved c =
    whole_more c.args.columns.now c.loop-place.place c.index-columns-place.result c.loop-place.whole.items _ c.whole_column.result c.loop-place-test.true c.index-columns-place.is
    c.in_ok-push.ensures.items c.whole_column.ensures c.loop-place.invariant
