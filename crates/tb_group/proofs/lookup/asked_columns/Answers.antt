use Rattle.std.proofs.Common.{◌∙◌, ◌<◌, ◌≤◌, ◌++◌, ◌∷◌, [], length, ap, sym, arith}
use Rattle.std.specs.List.{zip}
use Rattle.std.proofs.lemmas.List.{map-append, take_all}
use Rattle.tb_chunk.specs.Lent.{lent_columns}
use Rattle.tb_frame.specs.Promise.Table.{plain_column, table_of}
use Rattle.tb_group.specs.Asked.{asked_as, asked_list}
use Rattle.tb_group.proofs.AskedColumns.{many_lent, plain_at, zip_more}
use Rattle.tb_group.proofs.lookup.asked_columns.Goals as goal

pub loop-place-preserved : goal.loop-place-preserved
loop-place-preserved c =
    let aggs = c.args.aggs.now in
    let rs = c.args.sources.now in
    let p = c.loop-place.place in
    let a = c.index-aggs-place.result in
    let r = c.index-sources-place.result in
    let low : p < length aggs = c.loop-place-test.true in
    let here : p < length rs = omega (arith, low, c.requires) in
    ap asked_list c.in_ok-push.ensures.items
    ∙ map-append asked_as c.loop-place.asked.items (c.beside.result ∷ [])
    ∙ (λ t. c.loop-place.invariant t ++ (c.beside.ensures.asked t, plain_column (c.beside.ensures.column t)) ∷ [])
    ∙ sym (zip_more aggs (table_of (lent_columns rs)) p a (plain_column r.now) low (sym (many_lent rs ∙ c.requires)) c.index-aggs-place.is (plain_at rs p r here c.index-sources-place.is))

pub returns : goal.returns
returns c =
    let aggs = c.args.aggs.now in
    let table = table_of (lent_columns c.args.sources.now) in
    let p = c.loop-place.place in
    let most : length aggs ≤ p = c.loop-place-test.false in
    let long : length table ≤ p = omega (arith, most, many_lent c.args.sources.now, c.requires) in
    c.loop-place.invariant ∙ (λ t. zip (take_all p aggs most t) (take_all p table long t))
