use Rattle.std.proofs.Common.{◌≡◌, ◌∙◌, List, length, map, not, ap, sym, subst}
use Rattle.std.specs.Prelude.{All, IfOk}
use Rattle.std.proofs.lemmas.List.Elements.{All-filter}
use Rattle.tb_chunk.specs.Promise.Col.{Col, values}
use Rattle.tb_chunk.specs.Lent.{lent_columns}
use Rattle.tb_chunk.specs.Rows.{IsRowOf}
use Rattle.tb_frame.specs.Frame.{without_names}
use Rattle.tb_frame.specs.Promise.Naming.{is_among}
use Rattle.tb_frame.proofs.Taking.{rows_or_none}
use Rattle.tb_gather.specs.Gathered.{gathered_rows}
use Rattle.tb_join.proofs.kept.side_rows.Goals as goal

pub gather_rows-requires-clause-rows : goal.gather_rows-requires-clause-rows
gather_rows-requires-clause-rows g c κs within =
    let cs = c.args.table.now in
    let rows = map g.S.RowOf.number c.args.pairs.now in
    let is : lent_columns c.deref.result.now ≡ without_names c.args.gone.now cs = ap lent_columns c.deref.ensures.value ∙ c.in_ok-kept.ensures ∙ ap (without_names c.args.gone.now) c.get_columns.ensures.columns in
    let P : Col → Type 0 = λ k. All (IsRowOf (length (values k))) rows in
    subst (λ (ks : List Col). All P ks) (sym is) (All-filter (λ (k : Col). not (is_among c.args.gone.now k.name)) P cs (rows_or_none cs rows c.get_columns.ensures.table c.requires.rows))

pub returns : goal.returns
returns g c =
    let cs = c.args.table.now in
    let rows = map g.S.RowOf.number c.args.pairs.now in
    let is : lent_columns c.deref.result.now ≡ without_names c.args.gone.now cs = ap lent_columns c.deref.ensures.value ∙ c.in_ok-kept.ensures ∙ ap (without_names c.args.gone.now) c.get_columns.ensures.columns in
    subst (λ (ks : List Col). IfOk c.gather_rows.result (λ v. v.items ≡ map (gathered_rows rows c.args.sorted) ks)) is c.gather_rows.ensures
