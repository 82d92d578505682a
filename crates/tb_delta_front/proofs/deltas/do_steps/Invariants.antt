use Rattle.tb_delta.specs.Running.{steps_of}
use Rattle.tb_delta_front.specs.Deltas.{changes_of}
use Rattle.tb_delta_front.specs.Keeping.{IsLeft}
use Rattle.tb_delta_front.proofs.deltas.do_steps.Given as goal

abbrev pub invariant-loop-step : goal.invariant-loop-step
invariant-loop-step l =
    IsLeft l.keeps l.initial.run (steps_of l.fn.steps.items) (changes_of l.initial.changes.items) l.line l.run (steps_of l.step-iterator.rest.items) (changes_of l.changes.items)
