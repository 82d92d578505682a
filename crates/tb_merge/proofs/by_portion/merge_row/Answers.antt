use Rattle.std.proofs.Common.{◌+◌, ◌-◌, length, arith}
use Rattle.std.specs.List.{range_with_len}
use Rattle.std.proofs.lemmas.Result.{err_from_is_err_and}
use Rattle.tb_value.specs.Promise.Pairs.{row_numbers}
use Rattle.tb_merge.specs.RowPairs.{row_pairs, pairs_of}
use Rattle.tb_merge.proofs.Rows.{one_row_more, row_fits, still_too_many}
use Rattle.tb_merge.proofs.by_portion.merge_row.Goals as goal

pub returns-in_err-push_row-clause-gives_up : goal.returns-in_err-push_row-clause-gives_up
returns-in_err-push_row-clause-gives_up g c =
    let left = g.K.Ascend.left_keys c.args.keys.now in
    let right = g.K.Ascend.right_keys c.args.keys.now in
    let keep = c.args.keep_unmatched in
    let to = c.next_run-cursor.result in
    let items = c.args.pairs.now.items in
    let p = err_from_is_err_and c.from_residual.result c.from_residual.ensures.1 in
    rw (p.1, p.2)
    (still_too_many
    (length items + length (row_pairs keep c.args.from.row (range_with_len to.start (to.end - to.start))))
    (length (pairs_of left right keep (row_numbers (length left))))
    _
    (row_fits left right keep items c.args.from c.requires.so_far c.requires.row to c.next_run-cursor.ensures.run)
    c.in_err-push_row.ensures.settles)

pub returns-clause-merged : goal.returns-clause-merged
returns-clause-merged g c =
    let left = g.K.Ascend.left_keys c.args.keys.now in
    let right = g.K.Ascend.right_keys c.args.keys.now in
    let ran = c.next_run-cursor in
    one_row_more left right c.args.keep_unmatched c.args.pairs.now.items c.args.from c.requires.so_far c.requires.row ran.result ran.ensures.run
    _ _ c.push_row.new.pairs.items c.requires.keys c.in_ok-push_row.ensures.pairs c.in_ok-push_row.ensures.settles
    (omega (arith, ran.ensures.cost, ran.ensures.counted))
