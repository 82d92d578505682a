use Rattle.std.proofs.Common.{◌∙◌, sym, arith}
use Rattle.tb_json.proofs.LentValues.{each_in, ItemsWalk-more, ItemsWalk-fails, ItemsWalk-all}
use Rattle.tb_group_request.specs.Promise.Written.{agg_in}
use Rattle.tb_group_request.proofs.shape.aggs_in.Goals as goal

pub returns-in_default-2 : goal.returns-in_default-2
returns-in_default-2 c =
    ItemsWalk-fails agg_in _ _ _ _ (omega arith) c.at.ensures (sym c.in_ok-agg.ensures ∙ c.in_default-2.is) c.loop-place.invariant
    ∙ sym (each_in agg_in _ _ c.in-Some.ensures)

pub loop-place-preserved : goal.loop-place-preserved
loop-place-preserved c =
    rw c.in_ok-push.ensures.items
    (ItemsWalk-more agg_in _ _ _ _ _ (omega arith) c.at.ensures (sym c.in_ok-agg.ensures ∙ c.in-Some-2.is) c.loop-place.invariant)

pub returns : goal.returns
returns c =
    ItemsWalk-all agg_in _ _ _ (omega arith) c.loop-place.invariant
    ∙ sym (each_in agg_in _ _ c.in-Some.ensures)
