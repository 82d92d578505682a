use Rattle.std.proofs.Common.{rules, ◌≡◌, ◌∙◌, ◌∷◌, ◌++◌, ◌+◌, ◌<◌, [], List, ℕ, length, get_or, drop, take, ap, arith, refl, sym, subst}
use Rattle.std.proofs.Math.Seq.{take-length}
use Rattle.std.proofs.lemmas.List.{length-drop, length-map}
use Rattle.tb_delta.specs.Inside.{state_of}
use Rattle.tb_delta.specs.Promise.Steps.{AreAccepted, Step, after, told_each}
use Rattle.tb_delta.specs.Running.{IsBehind, lists_of, step_of, steps_of}
use Rattle.tb_delta.specs.declared.running.Step.{Step as RustStep}
use Rattle.tb_delta.proofs.Runs.{behind_more, next_is, next_left, next_low, step_is, stopped_done, stopped_refused, told_more}
use Rattle.tb_delta.proofs.running.run_steps.Goals as goal

pub loop-step-init : goal.loop-step-init
loop-step-init c =
    let rest : c.into_iter-step-iterator.result.iter.rest.items ≡ c.args.steps.items = search rules in
    let none : c.into_iter-step-iterator.result.count ≡ 0 = search rules in
    let empty : c.new-lists.result.items ≡ [] = search rules in (
      rest ∙ ap (λ n. drop n c.args.steps.items) (sym none),
      subst (λ n. IsBehind (state_of c.args.left.now c.args.right.now c.args.join_nulls) (steps_of c.args.steps.items) n (state_of c.args.left.now c.args.right.now c.args.join_nulls)) (sym none) (record { within = omega arith; accepted = tt; state = refl }),
      ap lists_of empty ∙ ap (λ n. told_each (state_of c.args.left.now c.args.right.now c.args.join_nulls) (take n (steps_of c.args.steps.items))) (sym none),
      c.requires,
    )

pub returns-then-is_err-clause-run : goal.returns-then-is_err-clause-run
returns-then-is_err-clause-run c =
    let k = c.loop-step.step-iterator.count in
    let all = c.args.steps.items in
    let x = c.in-Some.asked in
    let same : c.in-Some.step ≡ k = search rules in
    let took : c.loop-step.step-iterator.iter.rest.items ≡ x ∷ c.next.new.self.iter.rest.items = search rules in
    let here = sym c.loop-step.invariant.0 ∙ took in
    let low = next_low all k x c.next.new.self.iter.rest.items here in
    stopped_done (state_of c.args.left.now c.args.right.now c.args.join_nulls) (steps_of all) k c.in-Some.step (step_of x) (state_of c.loop-step.left c.loop-step.right c.args.join_nulls) (state_of c.do_step.new.left c.do_step.new.right c.args.join_nulls) same c.loop-step.invariant.1 (omega (arith, low, length-map all step_of)) (step_is all k x low (next_is all k x c.next.new.self.iter.rest.items here))
    c.in-Ok.ensures.done.0 c.in-Ok.ensures.done.1

pub loop-step-preserved : goal.loop-step-preserved
loop-step-preserved c =
    let k = c.loop-step.step-iterator.count in
    let all = c.args.steps.items in
    let s = (state_of c.args.left.now c.args.right.now c.args.join_nulls) in
    let xs : List Step = steps_of all in
    let x = c.in-Some.asked in
    let took : c.loop-step.step-iterator.iter.rest.items ≡ x ∷ c.next.new.self.iter.rest.items = search rules in
    let next : c.next.new.self.count ≡ k + 1 = search rules in
    let pushed : c.push.new.self.items ≡ c.loop-step.lists.items ++ c.in-Ok.ids ∷ [] = search rules in
    let here = sym c.loop-step.invariant.0 ∙ took in
    let low = next_low all k x c.next.new.self.iter.rest.items here in
    let under : k < length xs = omega (arith, low, length-map all step_of) in
    let is = step_is all k x low (next_is all k x c.next.new.self.iter.rest.items here) in
    let b = c.loop-step.invariant.1 in (
      next_left all k x c.next.new.self.iter.rest.items here ∙ ap (λ n. drop n all) (sym next),
      subst (λ n. IsBehind s xs n (state_of c.do_step.new.left c.do_step.new.right c.args.join_nulls)) (sym next) (behind_more s xs k (step_of x) (state_of c.loop-step.left c.loop-step.right c.args.join_nulls) (state_of c.do_step.new.left c.do_step.new.right c.args.join_nulls) b under is c.in-Ok.ensures.done.0 c.in-Ok.ensures.done.1),
      ap lists_of pushed
          ∙ told_more s xs k (step_of x) (state_of c.loop-step.left c.loop-step.right c.args.join_nulls) c.loop-step.lists.items c.in-Ok.ids b under is c.in-Ok.ensures.done.2 c.loop-step.invariant.2
          ∙ ap (λ n. told_each s (take n xs)) (sym next),
      c.do_step.ensures.changing,
    )

pub returns-in-Err-clause-run : goal.returns-in-Err-clause-run
returns-in-Err-clause-run c =
    let k = c.loop-step.step-iterator.count in
    let all = c.args.steps.items in
    let x = c.in-Some.asked in
    let same : c.in-Some.step ≡ k = search rules in
    let took : c.loop-step.step-iterator.iter.rest.items ≡ x ∷ c.next.new.self.iter.rest.items = search rules in
    let here = sym c.loop-step.invariant.0 ∙ took in
    let low = next_low all k x c.next.new.self.iter.rest.items here in
    stopped_refused (state_of c.args.left.now c.args.right.now c.args.join_nulls) (steps_of all) k c.in-Some.step (step_of x) (state_of c.loop-step.left c.loop-step.right c.args.join_nulls) (state_of c.do_step.new.left c.do_step.new.right c.args.join_nulls) c.in-Err.fault same c.loop-step.invariant.1 (omega (arith, low, length-map all step_of)) (step_is all k x low (next_is all k x c.next.new.self.iter.rest.items here))
    c.in-Err.ensures.done

pub returns-clause-run : goal.returns-clause-run
returns-clause-run c =
    let k = c.loop-step.step-iterator.count in
    let all = c.args.steps.items in
    let s = (state_of c.args.left.now c.args.right.now c.args.join_nulls) in
    let xs : List Step = steps_of all in
    let over : c.loop-step.step-iterator.iter.rest.len ≡ 0 = search rules in
    let b = c.loop-step.invariant.1 in
    let end : k ≡ length xs = omega (arith, over, c.loop-step.step-iterator.iter.rest.ok.0, ap length c.loop-step.invariant.0, length-drop k all, length-map all step_of, b.within) in
    let whole : take k xs ≡ xs = ap (λ n. take n xs) end ∙ take-length xs in (
      subst (λ (l : List Step). AreAccepted s l) whole b.accepted,
      b.state ∙ ap (after s) whole,
      c.loop-step.invariant.2 ∙ ap (told_each s) whole,
    )
