use Rattle.tb_request.proofs.FromBytes.{no_value}
use Rattle.tb_why.proofs.tree.tree_of.Goals as goal

pub place_of-requires : goal.place_of-requires
place_of-requires c = no_value _ _ _ c.in-NoRequest.is c.in-Err.ensures

pub returns-in_ok-place_of-in-NoRequest : goal.returns-in_ok-place_of-in-NoRequest
returns-in_ok-place_of-in-NoRequest c = no_value _ _ _ c.in-NoRequest.is c.in-Err.ensures
