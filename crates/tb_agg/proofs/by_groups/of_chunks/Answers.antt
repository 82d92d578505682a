use Rattle.std.proofs.Common.{◌∙◌, IfOk, ap, subst}
use Rattle.tb_value.specs.Refusals.{Settles}
use Rattle.tb_agg.specs.Outcome.{range_cause, IsAggregated}
use Rattle.tb_agg.proofs.Outcomes.{whole_cause, whole_made}
use Rattle.tb_agg.proofs.by_groups.of_chunks.Goals as goal

pub returns-clause-settles : goal.returns-clause-settles
returns-clause-settles c =
    subst (Settles c.of_one_chunk.result) (ap (range_cause c.args.aggregate c.args.groups.now) c.in_ok-whole.ensures ∙ whole_cause c.args.aggregate c.args.groups.now c.args.column.now) c.of_one_chunk.ensures.settles

pub returns-clause-column : goal.returns-clause-column
returns-clause-column c =
    whole_made c.args.aggregate c.args.groups.now c.args.column.now c.of_one_chunk.result
    (subst (λ x. IfOk c.of_one_chunk.result (IsAggregated c.args.aggregate c.args.groups.now x)) c.in_ok-whole.ensures c.of_one_chunk.ensures.column)
