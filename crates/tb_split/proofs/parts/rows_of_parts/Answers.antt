use Rattle.std.proofs.Common.{◌≡◌, ◌∙◌, ◌<◌, ◌≤◌, ap, arith, length, map, subst, sym}
use Rattle.std.specs.Prelude.{All}
use Rattle.std.proofs.lemmas.List.{length-map}
use Rattle.tb_value.specs.declared.limits.TheConstants.{MAX_ROWS}
use Rattle.tb_chunk.specs.Lent.{lent_columns}
use Rattle.tb_frame.specs.Promise.Table.{table_of}
use Rattle.tb_rowkey.specs.Promise.Columns.{row_count}
use Rattle.tb_split.specs.Keys.{AreRowsOf, bytes_part}
use Rattle.tb_split.proofs.KeyRows.{each_is, many_keys, rows_are}
use Rattle.tb_split.proofs.parts.rows_of_parts.Goals as goal

pub rows_by_number-requires-clause-below : goal.rows_by_number-requires-clause-below
rows_by_number-requires-clause-below c = subst (All (λ x. x < c.args.parts)) (sym c.deref.ensures.value) c.in_ok-numbers.ensures.below

pub rows_by_number-requires-clause-few : goal.rows_by_number-requires-clause-few
rows_by_number-requires-clause-few c =
    let many = ap length (c.deref.ensures.value ∙ c.in_ok-numbers.ensures.parts) ∙ length-map c.in_ok-keys.keys (bytes_part c.args.parts) in
    omega (arith, many, c.know_rows.ensures)

pub rows_by_number-requires-clause-rows : goal.rows_by_number-requires-clause-rows
rows_by_number-requires-clause-rows c =
    let many = ap length (c.deref.ensures.value ∙ c.in_ok-numbers.ensures.parts) ∙ length-map c.in_ok-keys.keys (bytes_part c.args.parts) in
    omega (arith, many, c.know_rows.ensures)

pub returns-clause-rows : goal.returns-clause-rows
returns-clause-rows c =
    let cs = lent_columns c.args.columns.now in
    c.in_ok-rows.ensures
    ∙ rows_are c.args.parts c.in_ok-keys.keys (table_of cs) (row_count cs) c.in_ok-keys.ensures c.deref.result.now (c.deref.ensures.value ∙ c.in_ok-numbers.ensures.parts)

pub returns-clause-each : goal.returns-clause-each
returns-clause-each c =
    let cs = lent_columns c.args.columns.now in
    let made = c.in_ok-rows.ensures
    ∙ rows_are c.args.parts c.in_ok-keys.keys (table_of cs) (row_count cs) c.in_ok-keys.ensures c.deref.result.now (c.deref.ensures.value ∙ c.in_ok-numbers.ensures.parts) in
    let few : row_count cs ≤ MAX_ROWS = omega (arith, many_keys c.args.parts c.in_ok-keys.keys (table_of cs) (row_count cs) c.in_ok-keys.ensures, c.know_rows.ensures) in
    subst (All (AreRowsOf (row_count cs))) (sym made) (each_is c.args.parts c.in_ok-keys.keys (table_of cs) (row_count cs) c.in_ok-keys.ensures few)
