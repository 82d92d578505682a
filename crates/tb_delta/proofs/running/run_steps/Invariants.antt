use Rattle.std.proofs.Common.{◌≡◌, take, drop}
use Rattle.tb_value.specs.declared.error.Side.TheVariants as side
use Rattle.tb_delta.specs.Changing.{IsChanging}
use Rattle.tb_delta.specs.Inside.{state_of}
use Rattle.tb_delta.specs.Promise.Steps.{told_each}
use Rattle.tb_delta.specs.Running.{IsBehind, lists_of, steps_of}
use Rattle.tb_delta.proofs.running.run_steps.Given as goal

abbrev pub invariant-loop-step : goal.invariant-loop-step
invariant-loop-step l =
    (l.step-iterator.iter.rest.items ≡ drop l.step-iterator.count l.fn.steps.items)
    × IsBehind (state_of l.initial.left l.initial.right l.join_nulls) (steps_of l.fn.steps.items) l.step-iterator.count (state_of l.left l.right l.join_nulls)
    × (lists_of l.lists.items ≡ told_each (state_of l.initial.left l.initial.right l.join_nulls) (take l.step-iterator.count (steps_of l.fn.steps.items)))
    × IsChanging side.Left l.left l.right l.join_nulls l.groups
