use Rattle.std.proofs.Common.{◌∙◌, map, Option, option_map, subst, sym, ap, List}
use Rattle.std.specs.Prelude.{All, IfSome}
use Rattle.std.proofs.lemmas.List.{map_push}
use Rattle.std.proofs.lemmas.List.Elements.{All-nil, All-push}
use Rattle.tb_json.specs.Promise.Lists.{each}
use Rattle.tb_json.proofs.LentValues.{Taking-start, Taking-next, Taking-stops, Taking-end}
use Rattle.tb_delta.specs.Running.{step_of, steps_of}
use Rattle.tb_delta.specs.declared.running.Step.{Step as RustStep}
use Rattle.tb_request.specs.Lent.{written_view}
use Rattle.tb_delta_request.specs.Lent.{column_part, step_view}
use Rattle.tb_delta_request.specs.Promise.Reading.{Fits, step_in}
use Rattle.tb_delta_request.proofs.rows.steps_from.Goals as goal

pub loop-item-init : goal.loop-item-init
loop-item-init c =
    let f = step_in (map written_view c.args.left.now) (map written_view c.args.right.now) in record {
      read = rw c.in_ok-steps.ensures.items (Taking-start step_view f c.into_iter-item-iterator.result.rest.items);
      fit = rw c.in_ok-steps.ensures.items (All-nil (Fits (map column_part c.args.left.now) (map column_part c.args.right.now)));
    }

pub returns-in_default : goal.returns-in_default
returns-in_default c =
    let f = step_in (map written_view c.args.left.now) (map written_view c.args.right.now) in record {
      value =
          Taking-stops step_view f c.into_iter-item-iterator.result.rest.items _ _ _ _ c.in-Some.ensures.steps.0 (sym c.in_ok-step.ensures.value ∙ ap (option_map step_of) c.in_default.is) c.loop-item.invariant.read
          ∙ ap (λ vs. each f (map step_view vs)) c.into_iter-item-iterator.ensures.into_iter_gives.0;
      fits = tt;
    }

pub loop-item-preserved : goal.loop-item-preserved
loop-item-preserved c =
    let f = step_in (map written_view c.args.left.now) (map written_view c.args.right.now) in
    let P = Fits (map column_part c.args.left.now) (map column_part c.args.right.now) in
    let Q : Option RustStep → Type 0 = λ o. IfSome o (λ s. P (step_of s)) in
    let one : P (step_of c.in-Some-2.step) = subst Q c.in-Some-2.is c.in_ok-step.ensures.fits in record {
      read = rw (c.in_ok-push.ensures.items, map_push) (Taking-next step_view f c.into_iter-item-iterator.result.rest.items _ _ _ _ _ c.in-Some.ensures.steps.0 (sym c.in_ok-step.ensures.value ∙ ap (option_map step_of) c.in-Some-2.is) c.loop-item.invariant.read);
      fit = rw (c.in_ok-push.ensures.items, map_push) (All-push P _ _ c.loop-item.invariant.fit one);
    }

pub returns : goal.returns
returns c =
    let f = step_in (map written_view c.args.left.now) (map written_view c.args.right.now) in record {
      value =
          Taking-end step_view f c.into_iter-item-iterator.result.rest.items _ _ (sym c.loop-item.item-iterator.rest.ok.0 ∙ c.in-None.ensures.steps.0) c.loop-item.invariant.read
          ∙ ap (λ vs. each f (map step_view vs)) c.into_iter-item-iterator.ensures.into_iter_gives.0;
      fits = c.loop-item.invariant.fit;
    }
