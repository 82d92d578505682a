use Rattle.std.proofs.Common.{refl}
use Rattle.std.proofs.lemmas.Result.{err_from_is_err_and}
use Rattle.tb_pairs.proofs.Traces.{plain_found}
use Rattle.tb_pairs.proofs.listed.plain_pairs.Goals as goal

pub returns-in_err-listed-clause-settles : goal.returns-in_err-listed-clause-settles
returns-in_err-listed-clause-settles c =
    let p = err_from_is_err_and c.from_residual.result c.from_residual.ensures.1 in
    rw (p.1, p.2) c.in_err-listed.ensures.settles

pub returns-clause-settles : goal.returns-clause-settles
returns-clause-settles c = c.in_ok-listed.ensures.settles

pub returns-clause-found : goal.returns-clause-found
returns-clause-found c = plain_found c.args.request.now c.args.exec.now _ c.in_ok-listed.ensures.found refl c.requires.long
