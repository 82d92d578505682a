use Rattle.tb_request.proofs.Claims.{Claiming}
use Rattle.tb_request.proofs.tables.claimed_of.Given as goal

abbrev pub invariant-loop-table : goal.invariant-loop-table
invariant-loop-table l = Claiming l.initial.table-iterator.rest.items l.claimed.items l.table-iterator.rest.items
