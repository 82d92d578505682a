use Rattle.std.proofs.Common.{◌≡◌, map}
use Rattle.tb_value.specs.Promise.Pairs.{row_numbers}
use Rattle.tb_frame.specs.Promise.Join.{flag_at}
use Rattle.tb_frame.proofs.null_flags.JoinNulls.flags.Given as goal

-- the flags of the places so far
abbrev pub invariant-loop-place : goal.invariant-loop-place
invariant-loop-place l = l.flags.items ≡ map (flag_at l.self) (row_numbers l.place)
