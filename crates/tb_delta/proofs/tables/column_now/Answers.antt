use Rattle.std.proofs.Common.{◌≡◌, ◌∙◌, ◌≤◌, ℕ, List, length, get_or, map, ap, arith, sym, subst}
use Rattle.std.specs.Prelude.{All}
use Rattle.std.specs.Map.{values_of}
use Rattle.std.proofs.lemmas.List.{length-map}
use Rattle.std.proofs.lemmas.List.Elements.{All-map}
use Rattle.tb_value.specs.Promise.Datum.{Datum, null}
use Rattle.tb_value.specs.Promise.Typed.{HasType}
use Rattle.tb_value.specs.See.{data_of}
use Rattle.tb_value.specs.SeeKind.{kind_of, part}
use Rattle.tb_chunk.specs.Promise.Col.{Col}
use Rattle.tb_frame.specs.Promise.Table.{TableColumn, plain_column}
use Rattle.tb_delta.specs.Inside.{side_state, stored}
use Rattle.tb_delta.specs.Promise.Now.{column_now}
use Rattle.tb_delta.specs.declared.side_rows.StoredRow.{StoredRow}
use Rattle.tb_delta.proofs.TablesNow.{few_rows, fields_are, through}
use Rattle.tb_delta.proofs.tables.column_now.Goals as goal

pub column_of-requires-clause-typed : goal.column_of-requires-clause-typed
column_of-requires-clause-typed c =
    let t = kind_of c.args.field.now.dtype in
    subst (λ (vs : List Datum). All (HasType t) vs) (sym c.in_ok-fields.ensures)
    (All-map (HasType t) (λ (s : StoredRow). get_or (data_of s.values.items) c.args.place null) (values_of c.args.rows.now.rows.entries) c.requires.typed)

pub column_of-requires-clause-few : goal.column_of-requires-clause-few
column_of-requires-clause-few c =
    let es : List (ℕ × StoredRow) = c.args.rows.now.rows.entries in
    let as_many = ap length (c.in_ok-fields.ensures ∙ fields_are es c.args.place) in
    omega (arith, as_many, length-map (map stored es) (λ (r : ℕ × List Datum). get_or r.1 c.args.place null), few_rows (side_state c.args.rows.now) c.requires.kept, c.requires.kept.few)

pub returns : goal.returns
returns c =
    let f = c.args.field.now in
    let made : List Datum → TableColumn = λ l. record { name = f.name; kind = kind_of f.dtype; values = l } in
    through (λ (x : Col). plain_column x ≡ made (data_of c.in_ok-fields.fields.items)) (λ (x : Col). plain_column x ≡ column_now (side_state c.args.rows.now).rows (c.args.place, part f))
    c.column_of.result c.only_memory.result c.only_memory.ensures.value c.column_of.ensures.column
    (λ x e. e ∙ ap made (c.in_ok-fields.ensures ∙ fields_are c.args.rows.now.rows.entries c.args.place))
