use Rattle.std.proofs.Common.{◌∙◌, option_map, sym, ap}
use Rattle.tb_request.specs.Lent.{claimed_views}
use Rattle.tb_request.proofs.Claims.{Claiming-next}
use Rattle.tb_request.proofs.tables.claimed_of.Goals as goal

pub loop-table-preserved : goal.loop-table-preserved
loop-table-preserved c =
    Claiming-next c.into_iter-table-iterator.result.rest.items _ _ c.in-Some.table _ _ c.in-Some-2.columns c.in_ok-push.ensures.items c.in-Some.ensures.steps.0
    (sym c.in_ok-columns.ensures ∙ ap (option_map claimed_views) c.in-Some-2.is) c.loop-table.invariant
