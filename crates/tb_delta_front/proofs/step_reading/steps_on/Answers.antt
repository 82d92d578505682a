use Rattle.std.proofs.Common.{◌≡◌, ◌+◌, ℕ, Ok, length, arith, subst, length-append}
use Rattle.std.proofs.lemmas.Bool.Decides.{nat_tests}
use Rattle.std.proofs.lemmas.List.{map_push}
use Rattle.std.proofs.lemmas.List.Elements.{All-nil, All-push}
use Rattle.tb_frame.specs.Promise.Table.{schema_of, table_of}
use Rattle.tb_delta.specs.Running.{step_of, steps_of}
use Rattle.tb_front.proofs.Dues.{IsDue}
use Rattle.tb_front.proofs.Each.{begins}
use Rattle.tb_delta_front.specs.Promise.Steps.{lines_of, Fits}
use Rattle.tb_delta_front.specs.Promise.Steps as due
use Rattle.tb_delta_front.proofs.StepLines.{all_steps, no_more, one_step}
use Rattle.tb_delta_front.proofs.step_reading.steps_on.Goals as goal

pub loop-rest-init : goal.loop-rest-init
loop-rest-init c =
    let l = schema_of (table_of c.args.left.now.columns.now) in
    let r = schema_of (table_of c.args.right.now.columns.now) in
    rw c.new-steps.ensures.items (record { read = begins (due.step_of l r) 1 (lines_of c.args.text.now); fit = All-nil (Fits l r) })

pub loop-rest-preserved : goal.loop-rest-preserved
loop-rest-preserved c =
    let l = schema_of (table_of c.args.left.now.columns.now) in
    let r = schema_of (table_of c.args.right.now.columns.now) in
    let xs = steps_of c.loop-rest.steps.items in
    let n = length c.loop-rest.steps.items + 1 in
    let x = step_of c.in-Ok.step in
    let same : c.len.result ≡ length c.loop-rest.steps.items = omega arith in
    rw (c.in_ok-push-in-Ok.ensures.items, map_push, length-append) (record {
      read = one_step l r c.args.text.now xs n c.loop-rest.rest.now c.first_line.result.0.now c.first_line.result.1.now x c.first_line.ensures.lines c.loop-rest.invariant.read
          (subst (λ (m : ℕ). due.step_of l r (m + 1) c.first_line.result.0.now ≡ Ok x) same c.in-Ok.ensures.value);
      fit = All-push (Fits l r) xs x c.loop-rest.invariant.fit c.in-Ok.ensures.fits;
    })

pub returns-in-Err-clause-value : goal.returns-in-Err-clause-value
returns-in-Err-clause-value c =
    let l = schema_of (table_of c.args.left.now.columns.now) in
    let r = schema_of (table_of c.args.right.now.columns.now) in
    let same : c.len.result ≡ length c.loop-rest.steps.items = omega arith in
    no_more l r c.args.text.now (steps_of c.loop-rest.steps.items) (length c.loop-rest.steps.items + 1) c.loop-rest.rest.now c.first_line.result.0.now c.first_line.result.1.now c.in-Err.fault c.first_line.ensures.lines c.loop-rest.invariant.read
    (subst (λ (m : ℕ). IsDue c.in-Err.fault (due.step_of l r (m + 1) c.first_line.result.0.now)) same c.in-Err.ensures.value)

pub returns-clause-value : goal.returns-clause-value
returns-clause-value c =
    let l = schema_of (table_of c.args.left.now.columns.now) in
    let r = schema_of (table_of c.args.right.now.columns.now) in
    let none : length c.loop-rest.rest.now ≡ 0 = grind (arith, nat_tests) in
    all_steps l r c.args.text.now (steps_of c.loop-rest.steps.items) (length c.loop-rest.steps.items + 1) c.loop-rest.rest.now none c.loop-rest.invariant.read
