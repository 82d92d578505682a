use Rattle.std.proofs.Common.{◌≡◌, ◌≤◌, ◌+◌, length, map, take}
use Rattle.std.specs.Prelude.{vec_capacity, vec_len}
use Rattle.tb_delta_front.proofs.changes.step_numbers.Given as goal

abbrev pub invariant-loop-change : goal.invariant-loop-change
invariant-loop-change l = record {
  made : l.steps.items ≡ map (λ c. c.step) (take l.change-index l.changes);
  room : vec_len l.steps + length l.changes ≤ vec_capacity l.steps + l.change-index;
}
