use Rattle.std.proofs.Common.{◌≡◌, ◌++◌, map, take}
use Rattle.tb_group.specs.Promise.Request.{agg_names}
use Rattle.tb_group.proofs.lookup.push_made_names.Given as goal

abbrev pub invariant-loop-agg : goal.invariant-loop-agg
invariant-loop-agg l = map (λ n. n.now) l.names.items ≡ map (λ n. n.now) l.initial.names.items ++ agg_names (take l.agg-index l.aggs)
