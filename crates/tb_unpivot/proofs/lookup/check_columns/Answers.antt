use Rattle.std.proofs.Common.{◌∙◌, ◌*◌, length}
use Rattle.std.proofs.lemmas.Result.{err_from_is_err_and}
use Rattle.tb_value.specs.declared.error.ComputeCause.TheVariants.{TooManyRows}
use Rattle.tb_value.specs.declared.error.PolarsError.TheVariants.{ComputeError}
use Rattle.tb_value.specs.declared.limits.TheConstants.{MAX_ROWS}
use Rattle.tb_frame.proofs.Causes.{when_not_above}
use Rattle.tb_unpivot.proofs.Causes.{goes_on, onward, stops}
use Rattle.tb_unpivot.proofs.lookup.check_columns.Goals as goal

pub returns-in_err-dtype-clause-settles : goal.returns-in_err-dtype-clause-settles
returns-in_err-dtype-clause-settles c =
    let p = err_from_is_err_and c.from_residual.result c.from_residual.ensures.1 in
    rw (p.1, p.2) (stops _ _ _ c.in_err-dtype.ensures.settles)

pub returns-in_err-check_height-clause-settles : goal.returns-in_err-check_height-clause-settles
returns-in_err-check_height-clause-settles c =
    let p = err_from_is_err_and c.from_residual-in_err-check_height.result c.from_residual-in_err-check_height.ensures.1 in
    rw (p.1, p.2) (onward _ _ _ (goes_on _ _ c.in_ok-dtype.ensures.settles) (stops _ _ _ c.in_err-check_height.ensures))

pub returns-clause-settles : goal.returns-clause-settles
returns-clause-settles c = goes_on _ _ c.in_ok-dtype.ensures.settles ∙ goes_on _ _ c.in_ok-check_height.ensures

pub returns-clause-few : goal.returns-clause-few
returns-clause-few c = when_not_above MAX_ROWS (c.args.rows * length c.args.columns.now) (ComputeError TooManyRows) c.in_ok-check_height.ensures
