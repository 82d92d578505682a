use Rattle.std.proofs.Common.{◌∙◌, ap, sym}
use Rattle.std.proofs.lemmas.Result.{err_from_is_err_and}
use Rattle.tb_chunk.specs.Lent.{lent_columns}
use Rattle.tb_unpivot.proofs.Answered.{are_asked, columns_causes}
use Rattle.tb_unpivot.proofs.Causes.{goes_on, onward, stops}
use Rattle.tb_unpivot.proofs.lookup.found.Goals as goal

pub returns-in_err-on_columns-clause-settles : goal.returns-in_err-on_columns-clause-settles
returns-in_err-on_columns-clause-settles c =
    let p = err_from_is_err_and c.from_residual.result c.from_residual.ensures.1 in
    rw (p.1, p.2) (stops _ _ _ c.in_err-on_columns.ensures.settles)

pub returns-in_err-index_columns-clause-settles : goal.returns-in_err-index_columns-clause-settles
returns-in_err-index_columns-clause-settles c =
    let p = err_from_is_err_and c.from_residual-in_err-index_columns.result c.from_residual-in_err-index_columns.ensures.1 in
    rw (p.1, p.2) (onward _ _ _ (goes_on _ _ c.in_ok-on_columns.ensures.settles) (stops _ _ _ c.in_err-index_columns.ensures.settles))

pub returns-in_err-check_repeated-clause-settles : goal.returns-in_err-check_repeated-clause-settles
returns-in_err-check_repeated-clause-settles c =
    let p = err_from_is_err_and c.from_residual-in_err-check_repeated.result c.from_residual-in_err-check_repeated.ensures.1 in
    rw (p.1, p.2) (onward _ _ _ (goes_on _ _ c.in_ok-on_columns.ensures.settles ∙ goes_on _ _ c.in_ok-index_columns.ensures.settles) (stops _ _ _ c.in_err-check_repeated.ensures))

pub returns-in_err-dtype-clause-settles : goal.returns-in_err-dtype-clause-settles
returns-in_err-dtype-clause-settles c =
    let p = err_from_is_err_and c.from_residual-in_err-dtype.result c.from_residual-in_err-dtype.ensures.1 in
    let same = columns_causes c.args.table.now c.args.on.now c.deref.result.now c.height.result c.height.ensures.height (ap lent_columns c.deref.ensures.value ∙ c.in_ok-on_columns.ensures.columns) in
    rw (p.1, p.2) (onward _ _ _ (goes_on _ _ c.in_ok-on_columns.ensures.settles ∙ goes_on _ _ c.in_ok-index_columns.ensures.settles ∙ goes_on _ _ c.in_ok-check_repeated.ensures ∙ sym same) c.in_err-dtype.ensures.settles)

pub returns-clause-settles : goal.returns-clause-settles
returns-clause-settles c =
    let same = columns_causes c.args.table.now c.args.on.now c.deref.result.now c.height.result c.height.ensures.height (ap lent_columns c.deref.ensures.value ∙ c.in_ok-on_columns.ensures.columns) in
    goes_on _ _ c.in_ok-on_columns.ensures.settles ∙ goes_on _ _ c.in_ok-index_columns.ensures.settles ∙ goes_on _ _ c.in_ok-check_repeated.ensures ∙ sym same ∙ c.in_ok-dtype.ensures.settles

pub returns-clause-asked : goal.returns-clause-asked
returns-clause-asked c =
    are_asked c.args.table.now c.args.on.now c.args.index.now _ c.deref.result.now c.height.result c.height.ensures.height c.deref.ensures.value c.in_ok-on_columns.ensures.columns c.in_ok-index_columns.ensures.columns c.in_ok-dtype.ensures.value c.in_ok-dtype.ensures.few
