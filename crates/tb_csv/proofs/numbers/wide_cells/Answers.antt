use Rattle.std.proofs.Common.{◌≡◌, ◌∙◌, None, ap, arith, get_or, length, map}
use Rattle.tb_value.specs.Promise.Datum.{int}
use Rattle.tb_value.specs.Promise.Pairs.{row_numbers}
use Rattle.tb_chunk.specs.Chunk.{or_null}
use Rattle.tb_csv.proofs.NumberWalks.{each_place, filled_more, lent_or_null}
use Rattle.tb_csv.proofs.numbers.wide_cells.Goals as goal

pub loop-row-preserved : goal.loop-row-preserved
loop-row-preserved c =
    filled_more (or_null int) (λ i. or_null int (get_or c.args.narrow.now i None)) c.loop-row.row c.loop-row.cells c.push.new.self c.widened.result c.in_ok-push.ensures.ok
    (c.widened.ensures ∙ lent_or_null c.get.result ∙ ap (or_null int) c.get.ensures) c.loop-row.invariant

pub returns : goal.returns
returns c =
    let end : c.loop-row.row ≡ length c.args.narrow.now = omega (arith, c.len-row-end.ensures) in
    c.loop-row.invariant ∙ ap (λ n. map (λ i. or_null int (get_or c.args.narrow.now i None)) (row_numbers n)) end ∙ each_place (or_null int) c.args.narrow.now None
