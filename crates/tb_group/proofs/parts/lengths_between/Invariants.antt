use Rattle.std.proofs.Common.{◌≡◌, ◌+◌, ◌-◌, map}
use Rattle.std.specs.Prelude.{slice_index_or}
use Rattle.tb_value.specs.Promise.Pairs.{row_numbers}
use Rattle.tb_group.proofs.parts.lengths_between.Given as goal

abbrev pub invariant-loop-place : goal.invariant-loop-place
invariant-loop-place l = l.lengths.items ≡ map (λ p. slice_index_or l.starts (p + 1) 0 - slice_index_or l.starts p 0) (row_numbers l.place)
