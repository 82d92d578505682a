use Rattle.std.proofs.Common.{◌≡◌, take}
use Rattle.tb_group.specs.Promise.Request.{agg_sources}
use Rattle.tb_group.proofs.lookup.source_names.Given as goal

abbrev pub invariant-loop-agg : goal.invariant-loop-agg
invariant-loop-agg l = l.names.items ≡ agg_sources (take l.agg-index l.aggs)
