use Rattle.std.proofs.Common.{◌≡◌, ◌<◌, ◌∙◌, ℕ, List, Option, sym, subst, map, length, arith}
use Rattle.std.specs.List.{All}
use Rattle.std.proofs.lemmas.List.{length-map}
use Rattle.rayon.proofs.ListFacts.{IfOk-then}
use Rattle.tb_chunk.specs.Promise.Col.{Col, values}
use Rattle.tb_chunk.specs.Lent.{lent_columns}
use Rattle.tb_chunk.specs.Rows.{IsRowOf}
use Rattle.tb_frame.specs.Frame.{lens}
use Rattle.tb_gather.specs.Ids.{Id, AreAllInOrder, row_or_none}
use Rattle.tb_gather.specs.Gathered.{NameRows, gathered_flag, named_rows}
use Rattle.tb_gather.specs.declared.keep.Keep.TheVariants as keep
use Rattle.tb_gather.proofs.Running.{ids-are-run}
use Rattle.tb_gather.proofs.Serving.{first-of, first_lent, named-each, length-ids, gathered-rows}
use Rattle.tb_gather.proofs.rows.gather_by_ids.Goals as goal

-- ids that name the rows in a series name them in the column that it is of
in_column : (ids : List Id) (rows : List (Option ℕ)) (series column : Col) → series ≡ column → NameRows ids series → map (row_or_none (lens series)) ids ≡ rows → NameRows ids column × (map (row_or_none (lens column)) ids ≡ rows)
in_column ids rows series column same named are = (subst (λ (k : Col). NameRows ids k) same named, subst (λ (k : Col). map (row_or_none (lens k)) ids ≡ rows) same are)

abbrev HasFewChunks : Col → Type 0
HasFewChunks c = length c.chunks < 16777215

pub ids_by-requires-after_bounds : goal.ids_by-requires-after_bounds
ids_by-requires-after_bounds g c κs within =
    let cs = lent_columns c.args.columns.now in
    let rows = map g.S.RowOf.number c.args.pairs.now in
    let HasRows : Col → Type 0 = λ k. All (IsRowOf (length (values k))) rows in
    let is = first_lent c.args.columns.now c.in-Some.first.now c.in-Some.ensures.value in
    let same = c.as_materialized_series-series.ensures in
    let few = subst HasFewChunks (sym same) (first-of HasFewChunks cs c.in-Some.first.now.now is c.requires.cut.few) in
    (omega arith, ((omega arith, omega arith), (few, subst HasRows (sym same) (first-of HasRows cs c.in-Some.first.now.now is c.requires.rows))))

pub gather_side_by_side-requires-after_bounds : goal.gather_side_by_side-requires-after_bounds
gather_side_by_side-requires-after_bounds g c κs within =
    let cs = lent_columns c.args.columns.now in
    let rows = map g.S.RowOf.number c.args.pairs.now in
    let is = first_lent c.args.columns.now c.in-Some.first.now c.in-Some.ensures.value in
    let ids = c.in_ok-ids-in-Some.ids.items in
    let made = in_column ids rows c.as_materialized_series-series.result.now c.in-Some.first.now.now c.as_materialized_series-series.ensures c.in_ok-ids-in-Some.ensures.named c.in_ok-ids-in-Some.ensures.rows in
    let named = named-each cs c.in-Some.first.now.now is c.requires.cut.alike ids rows made.0 made.1 in
    let count = length-ids cs c.in-Some.first.now.now is c.requires.cut.alike ids rows made.0 made.1 in
    let run = ids-are-run c.args.sorted _ ids rows c.in_ok-ids-in-Some.ensures.rows (c.in_ok-ids-in-Some.ensures.in_order c.args.sorted) c.requires.in_order in
    (omega arith, (subst (λ (by : List Id). All (NameRows by) cs) (sym c.deref.ensures.value) named, (subst (λ (by : List Id). AreAllInOrder c.args.sorted by) (sym c.deref.ensures.value) run, omega (arith, c.deref.ensures.len, count, length-map c.args.pairs.now g.S.RowOf.number, c.requires.few))))

pub returns-in_ok-ids-in-Some : goal.returns-in_ok-ids-in-Some
returns-in_ok-ids-in-Some g c =
    let cs = lent_columns c.args.columns.now in
    let rows = map g.S.RowOf.number c.args.pairs.now in
    let is = first_lent c.args.columns.now c.in-Some.first.now c.in-Some.ensures.value in
    let ids = c.in_ok-ids-in-Some.ids.items in
    let made = in_column ids rows c.as_materialized_series-series.result.now c.in-Some.first.now.now c.as_materialized_series-series.ensures c.in_ok-ids-in-Some.ensures.named c.in_ok-ids-in-Some.ensures.rows in
    let gathered_so = gathered-rows cs c.in-Some.first.now.now is c.requires.cut.alike ids rows made.0 made.1 c.args.sorted in
    IfOk-then c.gather_side_by_side.result _ _ c.gather_side_by_side.ensures (λ t got. got ∙ ((λ i. map (λ k. named_rows keep.All (c.deref.ensures.value i) (gathered_flag k.flag c.args.sorted) k) cs) ∙ gathered_so))
