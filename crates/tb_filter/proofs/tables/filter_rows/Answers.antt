use Rattle.std.proofs.Common.{◌≡◌, ◌∙◌, ℕ, List, Option, Some, length, map, ap, sym, subst, arith}
use Rattle.std.specs.Prelude.{All}
use Rattle.std.proofs.lemmas.List.{length-map}
use Rattle.tb_value.specs.declared.index.JoinPair.{JoinPair}
use Rattle.tb_value.specs.declared.sorted.IsSorted.TheVariants.{Ascending}
use Rattle.tb_value.specs.Promise.Pairs.{left_only}
use Rattle.tb_chunk.specs.Lent.{lent_columns}
use Rattle.tb_chunk.specs.Promise.Col.{Col, values}
use Rattle.tb_chunk.specs.Rows.{IsRowOf}
use Rattle.tb_frame.specs.Promise.Table.{IsTable, height, plain_column, table_of}
use Rattle.tb_frame.proofs.Taking.{rows_or_none}
use Rattle.tb_gather.specs.Gathered.{gathered_rows}
use Rattle.tb_gather.specs.Ids.{AreAllRowsInOrder}
use Rattle.tb_filter.specs.Promise.Filtered.{Check, rows_kept}
use Rattle.tb_filter.specs.Seen.{check_of}
use Rattle.tb_filter.proofs.Rows.{all_pass, gathered_is_table, gathered_table, kept_below, kept_count, kept_in_order, rows_of_pairs}
use Rattle.tb_filter.proofs.tables.filter_rows.Goals as goal

-- the rows of the pairs
rows_named : (ps : List JoinPair) (rows : List ℕ) → ps ≡ map left_only rows → map (λ (p : JoinPair). p.left) ps ≡ map (λ i. Some i) rows
rows_named ps rows e = ap (map (λ (p : JoinPair). p.left)) e ∙ rows_of_pairs rows

pub returns-then-len-height-clause-all : goal.returns-then-len-height-clause-all
returns-then-len-height-clause-all g c =
    let k : Check = check_of c.args.test.now in
    let col = plain_column c.args.column.now in
    let long = ap length c.in_ok-rows.ensures in
    let same = length-map (rows_kept k col) left_only in
    all_pass k col (table_of c.args.table.now) c.get_columns-columns.ensures.table c.requires (omega (arith, long, same, c.len.ensures, c.height.ensures.height, c.if-len-height.true))

pub gather_rows-requires-clause-rows : goal.gather_rows-requires-clause-rows
gather_rows-requires-clause-rows g c κs within =
    let k : Check = check_of c.args.test.now in
    let col = plain_column c.args.column.now in
    let rows : List ℕ = rows_kept k col in
    let named = rows_named c.deref-2.result.now rows (c.deref-2.ensures.value ∙ c.in_ok-rows.ensures) in
    let lent = (λ t. lent_columns (c.deref.ensures.value t)) ∙ c.in_ok-lent.ensures ∙ c.get_columns-columns.ensures.columns in
    let all = rows_or_none c.args.table.now (map (λ i. Some i) rows) c.get_columns-columns.ensures.table (kept_below k col (height (table_of c.args.table.now)) c.requires) in
    subst (λ (cs : List Col). All (λ (x : Col). All (IsRowOf (length (values x))) (map (λ (p : JoinPair). p.left) c.deref-2.result.now)) cs) (sym lent)
    (subst (λ (rs : List (Option ℕ)). All (λ (x : Col). All (IsRowOf (length (values x))) rs) c.args.table.now) (sym named) all)

pub gather_rows-requires-clause-in_order : goal.gather_rows-requires-clause-in_order
gather_rows-requires-clause-in_order g c κs within =
    let k : Check = check_of c.args.test.now in
    let col = plain_column c.args.column.now in
    let named = rows_named c.deref-2.result.now (rows_kept k col) (c.deref-2.ensures.value ∙ c.in_ok-rows.ensures) in
    subst (λ (rs : List (Option ℕ)). AreAllRowsInOrder Ascending rs) (sym named) (kept_in_order k col)

pub gather_rows-requires-clause-few : goal.gather_rows-requires-clause-few
gather_rows-requires-clause-few g c κs within =
    let k : Check = check_of c.args.test.now in
    let col = plain_column c.args.column.now in
    let long = ap length (c.deref-2.ensures.value ∙ c.in_ok-rows.ensures) in
    let same = length-map (rows_kept k col) left_only in
    let few = kept_count k col in
    omega (arith, long, same, few, c.requires, c.height.ensures.height, c.height.ensures.short)

pub made_table-requires : goal.made_table-requires
made_table-requires g c =
    let k : Check = check_of c.args.test.now in
    let col = plain_column c.args.column.now in
    let rows : List ℕ = rows_kept k col in
    let named = rows_named c.deref-2.result.now rows (c.deref-2.ensures.value ∙ c.in_ok-rows.ensures) in
    let lent = (λ t. lent_columns (c.deref.ensures.value t)) ∙ c.in_ok-lent.ensures ∙ c.get_columns-columns.ensures.columns in
    let made : c.in_ok-kept.kept.items ≡ map (gathered_rows (map (λ i. Some i) rows) Ascending) c.args.table.now = c.in_ok-kept.ensures ∙ (λ t. map (gathered_rows (named t) Ascending) (lent t)) in
    subst (λ (cs : List Col). IsTable (table_of cs)) (sym made) (gathered_is_table rows c.args.table.now c.get_columns-columns.ensures.table)

pub returns-clause-rows : goal.returns-clause-rows
returns-clause-rows g c =
    let k : Check = check_of c.args.test.now in
    let col = plain_column c.args.column.now in
    let rows : List ℕ = rows_kept k col in
    let named = rows_named c.deref-2.result.now rows (c.deref-2.ensures.value ∙ c.in_ok-rows.ensures) in
    let lent = (λ t. lent_columns (c.deref.ensures.value t)) ∙ c.in_ok-lent.ensures ∙ c.get_columns-columns.ensures.columns in
    let made : c.in_ok-kept.kept.items ≡ map (gathered_rows (map (λ i. Some i) rows) Ascending) c.args.table.now = c.in_ok-kept.ensures ∙ (λ t. map (gathered_rows (named t) Ascending) (lent t)) in
    ap table_of (c.in_ok-made_table.ensures ∙ made) ∙ gathered_table rows c.args.table.now

pub returns-clause-flags : goal.returns-clause-flags
returns-clause-flags g c =
    let k : Check = check_of c.args.test.now in
    let col = plain_column c.args.column.now in
    let rows : List ℕ = rows_kept k col in
    let named = rows_named c.deref-2.result.now rows (c.deref-2.ensures.value ∙ c.in_ok-rows.ensures) in
    let lent = (λ t. lent_columns (c.deref.ensures.value t)) ∙ c.in_ok-lent.ensures ∙ c.get_columns-columns.ensures.columns in
    c.in_ok-made_table.ensures ∙ c.in_ok-kept.ensures ∙ (λ t. map (gathered_rows (named t) Ascending) (lent t))
