use Rattle.tb_json.proofs.LentValues.{as_list-taken}
use Rattle.tb_request.proofs.members.into_array.Goals as goal

pub returns : goal.returns
returns c = as_list-taken _ _ c.in_ok-values.ensures
