use Rattle.std.proofs.Common.{◌≡◌, ◌∙◌, ℕ, List, ◌∷◌, [], ◌++◌, ap, sym, arith}
use Rattle.tb_value.proofs.RowNumbers.{row_numbers_more}
use Rattle.tb_rows.specs.Promise.InOrder.{in_order}
use Rattle.tb_frame.specs.Promise.Table.{table_of}
use Rattle.tb_group_front.specs.Promise.Sorted.{row_cmp, rows_by}
use Rattle.tb_group_front.proofs.sorting.rows_by_values.Goals as goal

pub loop-row-preserved : goal.loop-row-preserved
loop-row-preserved c =
    c.in_ok-push.ensures.items ∙ ap (λ (rows : List ℕ). rows ++ c.loop-row.row ∷ []) c.loop-row.invariant ∙ sym (row_numbers_more c.loop-row.row)

pub returns : goal.returns
returns c =
    let cs = table_of c.args.columns.now in
    let end : c.loop-row.row ≡ c.args.height = omega arith in
    c.in_ok-sort_rows.ensures ∙ ap (in_order (row_cmp cs)) c.loop-row.invariant ∙ ap (rows_by cs) end
