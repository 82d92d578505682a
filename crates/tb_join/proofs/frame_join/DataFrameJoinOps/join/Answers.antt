use Rattle.std.proofs.lemmas.Result.{err_from_is_err_and}
use Rattle.tb_join.proofs.frame_join.DataFrameJoinOps.join.Goals as goal

pub returns-in_err-table : goal.returns-in_err-table
returns-in_err-table g c =
    let p = err_from_is_err_and c.from_residual.result c.from_residual.ensures.1 in
    rw (p.1, p.2) (record { settles = c.in_err-table.ensures.settles; answer = tt })

pub returns : goal.returns
returns g c = record { settles = c.in_ok-table.ensures.settles; answer = c.in_ok-table.ensures.answer }
