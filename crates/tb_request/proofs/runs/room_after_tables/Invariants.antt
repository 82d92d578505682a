use Rattle.std.proofs.Common.{◌≡◌, ◌+◌, drop, map}
use Rattle.tb_request.specs.Promise.Columns.{rows_in_tables}
use Rattle.tb_request.specs.Lent.{written_views}
use Rattle.tb_request.proofs.runs.room_after_tables.Given as goal

-- the room that is left, and the rows that are left
abbrev pub invariant-loop-table : goal.invariant-loop-table
invariant-loop-table l = rows_in_tables (map written_views l.tables) + l.room ≡ rows_in_tables (map written_views (drop l.table-index l.tables)) + l.fn.room
