use Rattle.std.proofs.Common.{map, option_map, ◌∙◌, sym, ap}
use Rattle.std.proofs.lemmas.List.{map_push}
use Rattle.tb_json.specs.Promise.Lists.{each}
use Rattle.tb_request.specs.Promise.Columns.{values_of}
use Rattle.tb_request.specs.Lent.{written_view, claimed_view}
use Rattle.tb_json.proofs.LentValues.{Taking-start, Taking-next, Taking-stops, Taking-end}
use Rattle.tb_request.proofs.values.columns_of.Goals as goal

pub loop-item-init : goal.loop-item-init
loop-item-init c = rw c.in_ok-columns.ensures.items (Taking-start written_view values_of _)

pub returns-in_default : goal.returns-in_default
returns-in_default c =
    Taking-stops written_view values_of _ _ _ _ _ c.in-Some.ensures.steps.0 (sym c.in_ok-column.ensures ∙ ap (option_map claimed_view) c.in_default.is) c.loop-item.invariant
    ∙ ap (λ vs. each values_of (map written_view vs)) c.into_iter-item-iterator.ensures.into_iter_gives.0

pub loop-item-preserved : goal.loop-item-preserved
loop-item-preserved c =
    rw (c.in_ok-push.ensures.items, map_push)
    (Taking-next written_view values_of _ _ _ _ _ _ c.in-Some.ensures.steps.0 (sym c.in_ok-column.ensures ∙ ap (option_map claimed_view) c.in-Some-2.is) c.loop-item.invariant)

pub returns : goal.returns
returns c =
    Taking-end written_view values_of _ _ _ (sym c.loop-item.item-iterator.rest.ok.0 ∙ c.in-None.ensures.steps.0) c.loop-item.invariant
    ∙ ap (λ vs. each values_of (map written_view vs)) c.into_iter-item-iterator.ensures.into_iter_gives.0
