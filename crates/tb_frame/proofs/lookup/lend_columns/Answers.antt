use Rattle.std.proofs.Common.{◌≡◌, ◌⊎◌, [], Option, Some, get_or, sym, subst, ◌∙◌}
use Rattle.std.specs.Prelude.{is_none}
use Rattle.std.proofs.lemmas.List.{get_or_default}
use Rattle.std.proofs.lemmas.Result.{err_from_is_err_and}
use Rattle.tb_value.specs.Promise.Refusals.{when}
use Rattle.tb_value.specs.declared.error.PolarsError.TheVariants.{ColumnNotFound, OutOfMemory}
use Rattle.tb_chunk.specs.Promise.Col.{Col}
use Rattle.tb_chunk.specs.Lent.{lent_columns}
use Rattle.tb_frame.proofs.Selected.{known_more, selected_more, unknown_here}
use Rattle.tb_frame.proofs.lookup.lend_columns.Goals as goal

pub returns-in_err-column-clause-settles : goal.returns-in_err-column-clause-settles
returns-in_err-column-clause-settles c =
    let names = c.args.names.now in
    let i = c.loop-name.name-index in
    let name = c.name-item.result in
    let is : name ≡ get_or names i [] = c.name-item.is ∙ sym (get_or_default names i [] name c.loop-name-test.true) in
    let p = err_from_is_err_and c.from_residual-in_err-column.result c.from_residual-in_err-column.ensures.1 in
    let e = c.in_err-column.field-0.0 in
    let cause = subst (λ (o : Option Col). (e ≡ OutOfMemory) ⊎ (when (is_none o) (ColumnNotFound name) ≡ Some e)) (c.in_ok-by_name.ensures name) c.in_err-column.ensures.settles in
    rw (p.1, p.2) (unknown_here c.args.columns.now names i name c.loop-name-test.true is c.loop-name.invariant.known e cause)

pub loop-name-preserved : goal.loop-name-preserved
loop-name-preserved c =
    let cs = c.args.columns.now in
    let names = c.args.names.now in
    let i = c.loop-name.name-index in
    let name = c.name-item.result in
    let is : name ≡ get_or names i [] = c.name-item.is ∙ sym (get_or_default names i [] name c.loop-name-test.true) in
    let column = c.in_ok-column.column.now in
    let found = sym (c.in_ok-by_name.ensures name) ∙ c.in_ok-column.ensures.found in
    record {
      known = known_more cs names i name c.loop-name-test.true is c.loop-name.invariant.known column found;
      selected = c.in_ok-push_lent.ensures ∙ selected_more cs names i name c.loop-name-test.true is c.loop-name.invariant.known (lent_columns c.loop-name.lent.items) c.loop-name.invariant.selected column found;
    }
