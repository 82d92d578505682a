use Rattle.std.proofs.Common.{◌≡◌, ◌<◌, ℕ, get_or}
use Rattle.tb_value.specs.Promise.Datum.{null}
use Rattle.tb_chunk.specs.Promise.Col.{values}
use Rattle.tb_frame.proofs.equality.same_values.Given as goal

-- the values so far are equal
abbrev pub invariant-loop-row : goal.invariant-loop-row
invariant-loop-row l = (k : ℕ) → k < l.row → get_or (values l.first) k null ≡ get_or (values l.second) k null
