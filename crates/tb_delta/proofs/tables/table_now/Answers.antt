use Rattle.std.proofs.Common.{◌≡◌, ◌∙◌, ◌<◌, ℕ, List, Option, None, length, map, take, ap, arith, sym, subst}
use Rattle.std.specs.List.{enumerate_from}
use Rattle.std.proofs.Math.Seq.{take-length}
use Rattle.std.proofs.lemmas.List.{length-map}
use Rattle.tb_value.specs.Promise.Kind.{Part}
use Rattle.tb_value.specs.Refusals.{Settles}
use Rattle.tb_value.specs.SeeKind.{part}
use Rattle.tb_value.specs.declared.error.PolarsError.{PolarsError}
use Rattle.tb_chunk.specs.Promise.Col.{Col}
use Rattle.tb_frame.specs.Promise.Table.{IsTable, Table, table_of}
use Rattle.tb_frame.proofs.Frames.{IsTable-refusal}
use Rattle.tb_delta.specs.Inside.{side_state}
use Rattle.tb_delta.specs.Promise.Now.{column_now, table_now}
use Rattle.tb_delta.proofs.TablesNow.{is_table, long_at, table_more, through, typed_at}
use Rattle.tb_delta.proofs.tables.table_now.Goals as goal

pub column_now-requires-clause-long : goal.column_now-requires-clause-long
column_now-requires-clause-long c =
    let low : c.loop-place.place < length c.args.rows.now.columns.items = omega (arith, c.loop-place-test.true, c.len-place-end.ensures, c.args.rows.now.columns.ok.0) in
    long_at c.args.rows.now c.loop-place.place c.requires.kept low

pub column_now-requires-clause-typed : goal.column_now-requires-clause-typed
column_now-requires-clause-typed c =
    let low : c.loop-place.place < length c.args.rows.now.columns.items = omega (arith, c.loop-place-test.true, c.len-place-end.ensures, c.args.rows.now.columns.ok.0) in
    typed_at c.args.rows.now c.loop-place.place c.index.result.now c.requires.kept low c.index.ensures

pub only_memory-requires : goal.only_memory-requires
only_memory-requires c =
    let rows = c.args.rows.now in
    let all : c.loop-place.place ≡ length (map part rows.columns.items) = omega (arith, c.loop-place.auto.place-end, c.loop-place-test.false, c.len-place-end.ensures, rows.columns.ok.0, length-map rows.columns.items part) in
    let is : table_of c.loop-place.columns.items ≡ table_now (side_state rows) = c.loop-place.invariant
    ∙ ap (λ (n : ℕ). map (column_now (side_state rows).rows) (enumerate_from 0 (take n (map part rows.columns.items)))) all
    ∙ ap (λ (l : List Part). map (column_now (side_state rows).rows) (enumerate_from 0 l)) (take-length (map part rows.columns.items)) in
    subst (λ (o : Option PolarsError). Settles c.new.result o) (IsTable-refusal (table_of c.loop-place.columns.items) (subst (λ (t : Table). IsTable t) (sym is) (is_table (side_state rows) c.requires.kept))) c.new.ensures.settles

pub loop-place-preserved : goal.loop-place-preserved
loop-place-preserved c =
    let rows = c.args.rows.now in
    let low : c.loop-place.place < length rows.columns.items = omega (arith, c.loop-place-test.true, c.len-place-end.ensures, rows.columns.ok.0) in
    ap table_of c.in_ok-push.ensures.items
    ∙ table_more (side_state rows).rows rows.columns.items c.loop-place.place c.index.result.now c.in_ok-column_now.field-0 c.loop-place.columns.items low c.index.ensures c.loop-place.invariant c.in_ok-column_now.ensures

pub returns : goal.returns
returns c =
    let rows = c.args.rows.now in
    let all : c.loop-place.place ≡ length (map part rows.columns.items) = omega (arith, c.loop-place.auto.place-end, c.loop-place-test.false, c.len-place-end.ensures, rows.columns.ok.0, length-map rows.columns.items part) in
    let is : table_of c.loop-place.columns.items ≡ table_now (side_state rows) = c.loop-place.invariant
    ∙ ap (λ (n : ℕ). map (column_now (side_state rows).rows) (enumerate_from 0 (take n (map part rows.columns.items)))) all
    ∙ ap (λ (l : List Part). map (column_now (side_state rows).rows) (enumerate_from 0 l)) (take-length (map part rows.columns.items)) in
    through (λ (t : List Col). t ≡ c.loop-place.columns.items) (λ (t : List Col). table_of t ≡ table_now (side_state rows)) c.new.result c.only_memory.result c.only_memory.ensures.value c.new.ensures.columns
    (λ t e. ap table_of e ∙ is)
