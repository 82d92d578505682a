use Rattle.std.proofs.Common.{◌≡◌, ◌∙◌, ◌<◌, ap, arith, length, map, subst, sym}
use Rattle.std.specs.Prelude.{All}
use Rattle.std.specs.Borrow.{Bor}
use Rattle.std.proofs.lemmas.List.FromFn.{length-map-range_with_len}
use Rattle.tb_chunk.specs.Lent.{lent_columns}
use Rattle.tb_chunk.specs.Promise.Col.{Col, values}
use Rattle.tb_frame.specs.Promise.Table.{height, table_of}
use Rattle.tb_frame.proofs.Cuts.{table-whole}
use Rattle.tb_rowkey.specs.Promise.Columns.{row_count}
use Rattle.tb_split.specs.Keys.{AreKeysOf, AreRowsOf}
use Rattle.tb_split.specs.Promise.Split.{rows_by_keys}
use Rattle.tb_split.proofs.PartTables.{tables_are}
use Rattle.tb_split.proofs.splitting.split.Goals as goal

pub rows_of_parts-requires-clause-some : goal.rows_of_parts-requires-clause-some
rows_of_parts-requires-clause-some c = (subst (AreKeysOf (table_of c.args.table.now) c.args.on.now) (sym c.deref.ensures.value) c.in_ok-keys.ensures.keys).some

pub rows_of_parts-requires-clause-rows : goal.rows_of_parts-requires-clause-rows
rows_of_parts-requires-clause-rows c = (subst (AreKeysOf (table_of c.args.table.now) c.args.on.now) (sym c.deref.ensures.value) c.in_ok-keys.ensures.keys).level

pub tables_of-requires-clause-many : goal.tables_of-requires-clause-many
tables_of-requires-clause-many c =
    ap length c.in_ok-rows.ensures.rows
    ∙ length-map-range_with_len (rows_by_keys (table_of (lent_columns c.deref.result.now)) (row_count (lent_columns c.deref.result.now)) c.args.parts) 0 c.args.parts

pub tables_of-requires-clause-each : goal.tables_of-requires-clause-each
tables_of-requires-clause-each c =
    let t = table_of c.args.table.now in
    let keys = subst (AreKeysOf t c.args.on.now) (sym c.deref.ensures.value) c.in_ok-keys.ensures.keys in
    let whole : table_of c.in_ok-whole.whole ≡ t = ap table_of c.in_ok-whole.ensures ∙ table-whole c.args.table.now in
    subst (λ h. All (AreRowsOf h) c.in_ok-rows.rows) (keys.high ∙ sym (ap height whole)) c.in_ok-rows.ensures.each

pub returns-clause-tables : goal.returns-clause-tables
returns-clause-tables c =
    let t = table_of c.args.table.now in
    let ks = c.deref.result.now in
    let keys = subst (AreKeysOf t c.args.on.now) (sym c.deref.ensures.value) c.in_ok-keys.ensures.keys in
    let whole : table_of c.in_ok-whole.whole ≡ t = ap table_of c.in_ok-whole.ensures ∙ table-whole c.args.table.now in
    c.in_ok-tables.ensures
    ∙ tables_are t (table_of c.in_ok-whole.whole) (table_of (lent_columns ks)) c.args.on.now (row_count (lent_columns ks)) c.args.parts c.in_ok-rows.rows whole keys.named keys.high c.in_ok-rows.ensures.rows
