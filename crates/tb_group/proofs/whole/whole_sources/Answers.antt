use Rattle.std.proofs.Common.{List, Option, get_or, ap, ◌∙◌}
use Rattle.tb_chunk.specs.Promise.Col.{Col}
use Rattle.tb_rowkey.specs.FieldColumns.{joined_if_cut}
use Rattle.tb_group.proofs.Pieces.{seen_at}
use Rattle.tb_group.specs.declared.lookup.AskedColumn.{AskedColumn}
use Rattle.tb_group.proofs.whole.whole_sources.Goals as goal

pub whole_source-requires : goal.whole_source-requires
whole_source-requires c =
    let made = c.args.made.now in
    let n = c.loop-place.place in
    c.index-joined-place.is
    ∙ ap (λ (l : List (Option Col)). get_or l n c.index-joined-place.result) c.requires
    ∙ seen_at (λ (a : AskedColumn). a.column.now) joined_if_cut made n c.index-made-place.result c.index-joined-place.result c.loop-place-test.true c.index-made-place.is
