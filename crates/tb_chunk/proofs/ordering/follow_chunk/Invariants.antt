use Rattle.std.proofs.Common.{◌≡◌, ◌-◌, ◌+◌, take, drop}
use Rattle.tb_value.specs.See.{lent_value}
use Rattle.tb_cell.specs.Promise.Order.{last_in_order}
use Rattle.tb_chunk.proofs.ordering.follow_chunk.Given as goal

-- the rows that are left decide
abbrev pub invariant-loop-i : goal.invariant-loop-i
invariant-loop-i g l = last_in_order l.descending (lent_value l.before) (take l.count (drop l.from (g.C.Chunk.shown l.chunk))) ≡ last_in_order l.descending (lent_value l.last) (take (l.count - l.i) (drop (l.from + l.i) (g.C.Chunk.shown l.chunk)))
