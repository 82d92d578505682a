use Rattle.std.proofs.Common.{◌≡◌, ◌∙◌, ◌≤◌, ℕ, Some, List, get_or, length, map, ap, sym, subst}
use Rattle.std.specs.Prelude.{All, unwrap_or}
use Rattle.std.proofs.lemmas.List.{length-map}
use Rattle.std.proofs.lemmas.List.Elements.{All-weaker}
use Rattle.std.proofs.lemmas.List.FromFn.{length-range_with_len}
use Rattle.tb_value.specs.Promise.Datum.{null}
use Rattle.tb_value.specs.Promise.Kind.{Kind}
use Rattle.tb_value.specs.Promise.Names.{Name}
use Rattle.tb_value.specs.Promise.Pairs.{row_numbers}
use Rattle.tb_value.specs.See.{data_of}
use Rattle.tb_value.specs.SeeKind.{part}
use Rattle.tb_value.specs.declared.limits.TheConstants.{MAX_ROWS}
use Rattle.tb_chunk.specs.Promise.Col.{Col}
use Rattle.tb_frame.specs.Promise.Table.{height, schema_of, table_of}
use Rattle.tb_delta.specs.Inside.{AreRows, IsKeyed, place_of, side_state, stored}
use Rattle.tb_delta.specs.Promise.State.{SideState, side_of}
use Rattle.tb_delta.specs.TakenUp.{HasKeyAt}
use Rattle.tb_delta.specs.declared.side_rows.SideRows.{SideRows}
use Rattle.tb_delta.specs.declared.side_rows.StoredRow.{StoredRow}
use Rattle.tb_delta.proofs.Given.{given_rows_kept, place_is}
use Rattle.tb_delta.proofs.taking_up.side_rows.Goals as goal

pub map_of-requires : goal.map_of-requires
map_of-requires c =
    let rows : List (ℕ × StoredRow) = c.in_ok-listed_rows.field-0.items in
    let long : length rows ≡ height (table_of c.args.frame.now) =
    sym (length-map rows (λ (e : ℕ × StoredRow). e.0)) ∙ ap length c.in_ok-listed_rows.ensures.ids ∙ length-range_with_len 0 (height (table_of c.args.frame.now)) in
    c.in_ok-listed_rows.ensures.ids ∙ ap row_numbers (sym long)

pub returns-clause-placed : goal.returns-clause-placed
returns-clause-placed c =
    let made : SideRows = record { columns = c.in_ok-columns.columns; on = c.args.on; key = c.place_of-key.result; rows = c.in_ok-rows.rows; ever = c.height.result } in
    let place : place_of (side_state made).columns made.on ≡ Some made.key =
    ap (λ (cs : List (Name × Kind)). place_of cs c.args.on) (c.in_ok-columns.ensures ∙ ap (λ (cs : List Col). schema_of (table_of cs)) c.get_columns.ensures.columns)
    ∙ place_is c.args.frame.now c.args.on ∙ c.place_of-key.ensures in
    record {
      place = place;
      keyed = subst (λ (es : List (ℕ × StoredRow)). All (IsKeyed (side_state made)) es) (sym c.in_ok-rows.ensures)
          (All-weaker (HasKeyAt made.key) (IsKeyed (side_state made)) (λ e h. h ∙ ap (λ o. get_or (data_of e.1.values.items) (unwrap_or o 0) null) (sym place)) c.in_ok-listed_rows.field-0.items c.in_ok-listed_rows.ensures.keyed);
    }

pub returns-clause-kept : goal.returns-clause-kept
returns-clause-kept c =
    let t = table_of c.args.frame.now in
    let columns : map part c.in_ok-columns.columns.items ≡ schema_of t = c.in_ok-columns.ensures ∙ ap (λ (cs : List Col). schema_of (table_of cs)) c.get_columns.ensures.columns in
    let rows = ap (map stored) c.in_ok-rows.ensures ∙ c.in_ok-listed_rows.ensures.rows in
    let state : record { columns = map part c.in_ok-columns.columns.items; key = c.args.on; rows = map stored c.in_ok-rows.rows.entries; ever = c.height.result } ≡ side_of t c.args.on =
    λ i. record { columns = columns i; key = c.args.on; rows = rows i; ever = c.height.ensures.height i } in
    subst (λ (s : SideState). AreRows s) (sym state) (given_rows_kept t c.args.on c.get_columns.ensures.table (subst (λ n. n ≤ MAX_ROWS) c.height.ensures.height c.height.ensures.short))
