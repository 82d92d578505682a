use Rattle.std.proofs.Common.{List, ◌<◌, map, ap, sym, ◌∙◌, subst, length}
use Rattle.std.specs.Prelude.{All}
use Rattle.tb_chunk.specs.Promise.Col.{Col, values}
use Rattle.tb_frame.specs.Promise.Table.{table_of, height, IsTable}
use Rattle.tb_frame.specs.Frame.{taken_rows}
use Rattle.tb_frame.proofs.Taking.{rows_in_columns, IsTable-taken}
use Rattle.tb_frame.proofs.frame.DataFrame.take.Goals as goal

pub take_columns-requires-clause-rows : goal.take_columns-requires-clause-rows
take_columns-requires-clause-rows c =
    let rows = c.args.rows.now in
    let within : All (λ r. r < height (table_of c.self.inside.columns.items)) rows = subst (λ (cs : List Col). All (λ r. r < height (table_of cs)) rows) (sym c.self.view_is) c.requires.rows in
    subst (λ (cs : List Col). All (λ (k : Col). All (λ r. r < length (values k)) rows) cs) (sym c.deref.ensures.value) (rows_in_columns c.self.inside.columns.items rows c.self.invariant within)

pub invariant_of-result : goal.invariant_of-result
invariant_of-result c =
    let rows = c.args.rows.now in
    subst (λ (cs : List Col). IsTable (table_of cs)) (sym (c.in_ok-take_columns.ensures ∙ ap (λ (cs : List Col). map (taken_rows rows) cs) c.deref.ensures.value)) (IsTable-taken rows c.self.inside.columns.items c.self.invariant)
