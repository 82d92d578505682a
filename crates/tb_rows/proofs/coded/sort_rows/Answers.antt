use Rattle.std.proofs.Common.{◌≡◌, List, length, subst}
use Rattle.tb_rows.specs.Coded.{AreToldByCodes}
use Rattle.tb_rows.specs.declared.coded.CodedRow.{CodedRow}
use Rattle.tb_rows.proofs.Sorts.{sorted_again, sorted_by_codes}
use Rattle.tb_rows.proofs.coded.sort_rows.Goals as goal

pub returns-then-are_told_by_codes-clause-sorted : goal.returns-then-are_told_by_codes-clause-sorted
returns-then-are_told_by_codes-clause-sorted c =
    let cs = c.args.columns.now in
    let new = c.sort_by_codes.new.rows.items in
    let lent : c.as_slice.result.now ≡ new = c.as_slice.ensures.value in
    sorted_by_codes cs c.args.rows.now.items new c.in_ok-sort_by_codes.ensures
    (subst (λ (rows : List CodedRow). AreToldByCodes cs rows (length rows)) lent (c.are_told_by_codes.ensures c.if-are_told_by_codes.true))

pub returns-clause-sorted : goal.returns-clause-sorted
returns-clause-sorted c =
    sorted_again c.args.columns.now c.args.rows.now.items c.sort_by_codes.new.rows.items c.sort_by_values.new.rows.items c.in_ok-sort_by_codes.ensures
    c.in_ok-sort_by_values.ensures
