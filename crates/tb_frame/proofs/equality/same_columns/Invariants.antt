use Rattle.std.proofs.Common.{◌≡◌, ◌<◌, ℕ, get_or}
use Rattle.tb_chunk.specs.Promise.Col.{Col}
use Rattle.tb_frame.specs.Promise.Table.{plain_column}
use Rattle.tb_frame.proofs.equality.same_columns.Given as goal

-- the columns so far are equal
abbrev pub invariant-loop-i : goal.invariant-loop-i
invariant-loop-i l = (k : ℕ) (d : Col) → k < l.i → plain_column (get_or l.first k d) ≡ plain_column (get_or l.second k d)
