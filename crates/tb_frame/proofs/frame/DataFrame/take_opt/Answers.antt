use Rattle.std.proofs.Common.{List, map, ap, sym, ◌∙◌, subst, length}
use Rattle.std.specs.Prelude.{All}
use Rattle.tb_chunk.specs.Promise.Col.{Col, values}
use Rattle.tb_chunk.specs.Rows.{IsRowOf}
use Rattle.tb_frame.specs.Promise.Table.{table_of, height, IsTable}
use Rattle.tb_frame.specs.Frame.{opt_taken_rows}
use Rattle.tb_frame.proofs.Taking.{rows_or_none, IsTable-opt_taken}
use Rattle.tb_frame.proofs.frame.DataFrame.take_opt.Goals as goal

pub take_opt_columns-requires-clause-rows : goal.take_opt_columns-requires-clause-rows
take_opt_columns-requires-clause-rows c =
    let rows = c.args.rows.now in
    let within : All (IsRowOf (height (table_of c.self.inside.columns.items))) rows = subst (λ (cs : List Col). All (IsRowOf (height (table_of cs))) rows) (sym c.self.view_is) c.requires.rows in
    subst (λ (cs : List Col). All (λ (k : Col). All (IsRowOf (length (values k))) rows) cs) (sym c.deref.ensures.value) (rows_or_none c.self.inside.columns.items rows c.self.invariant within)

pub invariant_of-result : goal.invariant_of-result
invariant_of-result c =
    let rows = c.args.rows.now in
    subst (λ (cs : List Col). IsTable (table_of cs)) (sym (c.in_ok-take_opt_columns.ensures ∙ ap (λ (cs : List Col). map (opt_taken_rows rows) cs) c.deref.ensures.value)) (IsTable-opt_taken rows c.self.inside.columns.items c.self.invariant)
