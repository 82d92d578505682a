use Rattle.std.proofs.Common.{◌≡◌, ◌∙◌, List, None, ap, sym}
use Rattle.std.specs.Borrow.{Bor}
use Rattle.std.proofs.lemmas.Result.{err_from_is_err_and}
use Rattle.tb_chunk.specs.Promise.Col.{Col}
use Rattle.tb_chunk.specs.Lent.{lent_columns}
use Rattle.tb_frame.specs.Promise.Frame.{selected_columns}
use Rattle.tb_frame.specs.Promise.Table.{table_of}
use Rattle.tb_pivot.specs.Promise.Refusal.{agg_cause}
use Rattle.tb_pivot.proofs.Causes.{header_stops, none_holds, value_stops}
use Rattle.tb_pivot.proofs.Named.{all_taken, are_as_high}
use Rattle.tb_pivot.proofs.lookup.found.Goals as goal

pub returns-in_err-check_headers-clause-settles : goal.returns-in_err-check_headers-clause-settles
returns-in_err-check_headers-clause-settles g c =
    let p = err_from_is_err_and c.from_residual-in_err-check_headers.result c.from_residual-in_err-check_headers.ensures.1 in
    rw (p.1, p.2)
    (header_stops c.args.table.now c.get_columns-columns.result.now c.args.on.now c.args.index.now c.args.values.now (g.M.CellMaker.way c.args.maker.now) c.get_columns-columns.ensures.columns
    c.in_ok-on_columns.ensures.settles c.in_ok-index_columns.ensures.settles c.in_ok-value_columns.ensures.settles c.in_ok-check_keys.ensures c.in_ok-check_repeated.ensures c.in_ok-check_brace_name.ensures
    c.deref.result.now (ap lent_columns c.deref.ensures.value ∙ c.in_ok-on_columns.ensures.columns)
    c.in_err-check_headers.field-0.0 c.in_err-check_headers.ensures)

pub returns-in_err-check_values-clause-settles : goal.returns-in_err-check_values-clause-settles
returns-in_err-check_values-clause-settles g c =
    let p = err_from_is_err_and c.from_residual-in_err-check_values.result c.from_residual-in_err-check_values.ensures.1 in
    rw (p.1, p.2)
    (value_stops c.args.table.now c.get_columns-columns.result.now c.args.on.now c.args.index.now c.args.values.now (g.M.CellMaker.way c.args.maker.now) c.get_columns-columns.ensures.columns
    c.in_ok-on_columns.ensures.settles c.in_ok-index_columns.ensures.settles c.in_ok-value_columns.ensures.settles c.in_ok-check_keys.ensures c.in_ok-check_repeated.ensures c.in_ok-check_brace_name.ensures
    c.deref.result.now (ap lent_columns c.deref.ensures.value ∙ c.in_ok-on_columns.ensures.columns)
    c.in_ok-check_headers.ensures c.deref-2.result.now (ap lent_columns c.deref-2.ensures.value ∙ c.in_ok-value_columns.ensures.columns)
    c.in_err-check_values.field-0.0 c.in_err-check_values.ensures)

pub returns-clause-settles : goal.returns-clause-settles
returns-clause-settles g c =
    none_holds c.args.table.now c.get_columns-columns.result.now c.args.on.now c.args.index.now c.args.values.now (g.M.CellMaker.way c.args.maker.now) c.get_columns-columns.ensures.columns
    c.in_ok-on_columns.ensures.settles c.in_ok-index_columns.ensures.settles c.in_ok-value_columns.ensures.settles c.in_ok-check_keys.ensures c.in_ok-check_repeated.ensures c.in_ok-check_brace_name.ensures
    c.deref.result.now (ap lent_columns c.deref.ensures.value ∙ c.in_ok-on_columns.ensures.columns)
    c.in_ok-check_headers.ensures c.deref-2.result.now (ap lent_columns c.deref-2.ensures.value ∙ c.in_ok-value_columns.ensures.columns)
    c.in_ok-check_values.ensures

pub returns-clause-high : goal.returns-clause-high
returns-clause-high g c =
    are_as_high c.args.table.now c.args.on.now c.args.index.now c.args.values.now
    (record { on = c.in_ok-on_columns.on_columns; index = c.in_ok-index_columns.index_columns; values = c.in_ok-value_columns.value_columns })
    c.get_columns-columns.ensures.table
    (record {
      on = c.in_ok-on_columns.ensures.columns ∙ ap (selected_columns c.args.on.now) c.get_columns-columns.ensures.columns;
      index = c.in_ok-index_columns.ensures.columns ∙ ap (selected_columns c.args.index.now) c.get_columns-columns.ensures.columns;
      values = c.in_ok-value_columns.ensures.columns ∙ ap (selected_columns c.args.values.now) c.get_columns-columns.ensures.columns;
    })

pub returns-clause-taken : goal.returns-clause-taken
returns-clause-taken g c =
    let way = g.M.CellMaker.way c.args.maker.now in
    let none : agg_cause way (table_of (lent_columns c.deref-2.result.now)) ≡ None = c.in_ok-check_values.ensures in
    all_taken way c.in_ok-value_columns.value_columns.items (ap (λ (rs : List (Bor Col)). agg_cause way (table_of (lent_columns rs))) (sym c.deref-2.ensures.value) ∙ none)
