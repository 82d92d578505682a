use Rattle.tb_json.proofs.LentValues.{ItemsWalk}
use Rattle.tb_group_request.specs.Promise.Written.{agg_in}
use Rattle.tb_group_request.proofs.shape.aggs_in.Given as goal

abbrev pub invariant-loop-place : goal.invariant-loop-place
invariant-loop-place l = ItemsWalk agg_in l.items l.aggs.items l.place
