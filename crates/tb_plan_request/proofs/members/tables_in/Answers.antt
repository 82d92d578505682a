use Rattle.std.proofs.Common.{◌∙◌, option_map, sym, ap, map}
use Rattle.std.proofs.lemmas.List.{map_push}
use Rattle.tb_tree.specs.View.{view}
use Rattle.tb_plan_request.specs.Promise.Written.{table_in}
use Rattle.tb_plan_request.specs.Lent.{written_table}
use Rattle.tb_json.proofs.LentValues.{Taking-start, Taking-next, Taking-stops, Taking-end, each_taken}
use Rattle.tb_plan_request.proofs.members.tables_in.Goals as goal

pub loop-item-init : goal.loop-item-init
loop-item-init c = rw c.in_ok-tables.ensures.items (Taking-start view (table_in c.args.format) _)

pub returns-in_default-2 : goal.returns-in_default-2
returns-in_default-2 c =
    Taking-stops view (table_in c.args.format) _ _ _ _ _ c.in-Some-item.ensures.steps.0 (sym c.in_ok-table.ensures ∙ ap (option_map written_table) c.in_default-2.is) c.loop-item.invariant
    ∙ sym (each_taken (table_in c.args.format) _ _ _ (ap (option_map (λ v. map view v.items)) (sym c.in-Some.is) ∙ c.in_ok-items.ensures) c.into_iter-item-iterator.ensures.into_iter_gives.0)

pub loop-item-preserved : goal.loop-item-preserved
loop-item-preserved c =
    rw (c.in_ok-push.ensures.items, map_push)
    (Taking-next view (table_in c.args.format) _ _ _ _ _ _ c.in-Some-item.ensures.steps.0 (sym c.in_ok-table.ensures ∙ ap (option_map written_table) c.in-Some-2.is) c.loop-item.invariant)

pub returns : goal.returns
returns c =
    Taking-end view (table_in c.args.format) _ _ _ (sym c.loop-item.item-iterator.rest.ok.0 ∙ c.in-None.ensures.steps.0) c.loop-item.invariant
    ∙ sym (each_taken (table_in c.args.format) _ _ _ (ap (option_map (λ v. map view v.items)) (sym c.in-Some.is) ∙ c.in_ok-items.ensures) c.into_iter-item-iterator.ensures.into_iter_gives.0)
