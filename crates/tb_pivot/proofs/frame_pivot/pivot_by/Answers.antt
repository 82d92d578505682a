use Rattle.std.proofs.Common.{◌≡◌, ◌∙◌, IfOk, Option, ap, subst, sym}
use Rattle.std.specs.Option.{option_copied}
use Rattle.std.proofs.lemmas.Result.{err_from_is_err_and}
use Rattle.tb_value.specs.Refusals.{Settles}
use Rattle.tb_value.specs.declared.error.PolarsError.{PolarsError}
use Rattle.tb_frame.specs.Promise.Table.{table_of}
use Rattle.tb_pivot.specs.Lent.{lent_request}
use Rattle.tb_pivot.specs.Promise.Pivot.{wide}
use Rattle.tb_pivot.specs.Promise.Refusal.{value_causes}
use Rattle.tb_pivot.specs.Promise.Request.{Chosen, Request}
use Rattle.tb_value.specs.Promise.Refusals.{first_cause}
use Rattle.tb_pivot.proofs.Named.{chosen_is, columns_stop, names_stop, values_decide}
use Rattle.tb_pivot.proofs.frame_pivot.pivot_by.Goals as goal

pub returns-in_err-names-clause-settles : goal.returns-in_err-names-clause-settles
returns-in_err-names-clause-settles g c =
    let q : Request = lent_request c.args.table.now c.args.on.now (option_copied c.args.index) (option_copied c.args.values) c.args.sort_columns (g.M.CellMaker.way c.args.maker.now) c.args.separator in
    let p = err_from_is_err_and c.from_residual.result c.from_residual.ensures.1 in
    rw (p.1, p.2) (names_stop q c.in_err-names.field-0.0 c.in_err-names.ensures.settles)

pub returns-in_err-columns-clause-settles : goal.returns-in_err-columns-clause-settles
returns-in_err-columns-clause-settles g c =
    let q : Request = lent_request c.args.table.now c.args.on.now (option_copied c.args.index) (option_copied c.args.values) c.args.sort_columns (g.M.CellMaker.way c.args.maker.now) c.args.separator in
    let p = err_from_is_err_and c.from_residual-in_err-columns.result c.from_residual-in_err-columns.ensures.1 in
    rw (p.1, p.2)
    (columns_stop q c.in_ok-names.ensures.settles c.deref.result.now c.deref-2.result.now (c.deref.ensures.value ∙ c.in_ok-names.ensures.index) (c.deref-2.ensures.value ∙ c.in_ok-names.ensures.values)
    c.in_err-columns.field-0.0 c.in_err-columns.ensures.settles)

pub wide_of_chunks-requires-clause-high : goal.wide_of_chunks-requires-clause-high
wide_of_chunks-requires-clause-high g c = rw c.height-height.ensures.height c.in_ok-columns.ensures.high

pub wide_of_chunks-requires-clause-taken : goal.wide_of_chunks-requires-clause-taken
wide_of_chunks-requires-clause-taken g c = c.in_ok-columns.ensures.taken

pub returns-clause-settles : goal.returns-clause-settles
returns-clause-settles g c =
    let way = g.M.CellMaker.way c.args.maker.now in
    let q : Request = lent_request c.args.table.now c.args.on.now (option_copied c.args.index) (option_copied c.args.values) c.args.sort_columns way c.args.separator in
    subst (λ (o : Option PolarsError). Settles c.wide_of_chunks.result o)
    (ap (λ (k : Chosen). first_cause (value_causes k))
    (chosen_is c.args.table.now c.args.on.now (option_copied c.args.index) (option_copied c.args.values) c.args.sort_columns way c.args.separator c.deref.result.now c.deref-2.result.now
    (c.deref.ensures.value ∙ c.in_ok-names.ensures.index) (c.deref-2.ensures.value ∙ c.in_ok-names.ensures.values) c.in_ok-columns.columns c.in_ok-columns.ensures.found
    c.height-height.result c.height-height.ensures.height c.given_separator.result.now c.given_separator.ensures)
    ∙ sym (values_decide q c.in_ok-names.ensures.settles c.deref.result.now c.deref-2.result.now (c.deref.ensures.value ∙ c.in_ok-names.ensures.index) (c.deref-2.ensures.value ∙ c.in_ok-names.ensures.values) c.in_ok-columns.ensures.settles))
    c.wide_of_chunks.ensures.settles

pub returns-clause-table : goal.returns-clause-table
returns-clause-table g c =
    let way = g.M.CellMaker.way c.args.maker.now in
    subst (λ (k : Chosen). IfOk c.wide_of_chunks.result (λ t. table_of t ≡ wide k))
    (chosen_is c.args.table.now c.args.on.now (option_copied c.args.index) (option_copied c.args.values) c.args.sort_columns way c.args.separator c.deref.result.now c.deref-2.result.now
    (c.deref.ensures.value ∙ c.in_ok-names.ensures.index) (c.deref-2.ensures.value ∙ c.in_ok-names.ensures.values) c.in_ok-columns.columns c.in_ok-columns.ensures.found
    c.height-height.result c.height-height.ensures.height c.given_separator.result.now c.given_separator.ensures)
    c.wide_of_chunks.ensures.table
