use Rattle.tb_tree.specs.View.{listed}
use Rattle.tb_group_request.specs.Promise.Members.{agg_members}
use Rattle.tb_why.specs.Members.{members_spot}
use Rattle.tb_why.proofs.Walks.{Walk}
use Rattle.tb_why.proofs.requests.aggs_spot.Given as goal

abbrev pub invariant-loop-i : goal.invariant-loop-i
invariant-loop-i l = Walk (members_spot agg_members) (listed l.aggs) l.i
