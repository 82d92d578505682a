use Rattle.std.proofs.lemmas.Result.{err_from_is_err_and}
use Rattle.tb_request.proofs.FromBytes.{fault_passes}
use Rattle.tb_group_request.specs.Promise.Reading.{group_in, group_request_of}
use Rattle.tb_group_request.proofs.reading.group_request_of.Goals as goal

pub returns : goal.returns
unfolding group_request_of
returns c = rw c.in_ok-value.ensures c.group_in.ensures

pub returns-in_err-value : goal.returns-in_err-value
unfolding group_request_of
returns-in_err-value c =
    let p = err_from_is_err_and c.from_residual.result c.from_residual.ensures.1 in
    rw (p.1, p.2) (fault_passes _ _ group_in c.in_err-value.ensures)
