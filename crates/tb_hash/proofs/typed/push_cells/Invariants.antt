use Rattle.std.proofs.Common.{◌≡◌, ◌++◌, take}
use Rattle.tb_hash.proofs.typed.push_cells.Given as goal

abbrev pub invariant-loop-row : goal.invariant-loop-row
invariant-loop-row g l = l.cells ≡ l.initial.cells ++ take l.row l.chunk
