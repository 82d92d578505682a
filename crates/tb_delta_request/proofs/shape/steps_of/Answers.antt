use Rattle.std.proofs.Common.{◌∙◌, map, option_map, sym, ap}
use Rattle.std.proofs.lemmas.List.{map_push}
use Rattle.tb_tree.specs.View.{view}
use Rattle.tb_json.specs.Promise.Lists.{each}
use Rattle.tb_json.proofs.LentValues.{Taking-start, Taking-next, Taking-stops, Taking-end}
use Rattle.tb_request.specs.Lent.{written_view}
use Rattle.tb_delta_request.specs.Lent.{step_view}
use Rattle.tb_delta_request.specs.Promise.Written.{step_of}
use Rattle.tb_delta_request.proofs.shape.steps_of.Goals as goal

pub loop-item-init : goal.loop-item-init
loop-item-init c = rw c.in_ok-steps.ensures.items (Taking-start view (step_of (map written_view c.args.left.now) (map written_view c.args.right.now)) _)

pub loop-item-preserved : goal.loop-item-preserved
loop-item-preserved c =
    let f = step_of (map written_view c.args.left.now) (map written_view c.args.right.now) in
    rw (c.in_ok-push.ensures.items, map_push)
    (Taking-next view f _ _ _ _ _ _ c.in-Some.ensures.steps.0 (sym c.in_ok-step.ensures ∙ ap (option_map step_view) c.in-Some-2.is) c.loop-item.invariant)

pub returns : goal.returns
returns c =
    let f = step_of (map written_view c.args.left.now) (map written_view c.args.right.now) in
    Taking-end view f _ _ _ (sym c.loop-item.item-iterator.rest.ok.0 ∙ c.in-None.ensures.steps.0) c.loop-item.invariant
    ∙ ap (λ vs. each f (map view vs)) c.into_iter-item-iterator.ensures.into_iter_gives.0
