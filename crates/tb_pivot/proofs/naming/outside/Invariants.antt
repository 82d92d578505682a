use Rattle.std.proofs.Common.{◌≡◌, take}
use Rattle.tb_frame.specs.Promise.Table.{table_of}
use Rattle.tb_pivot.specs.Promise.Request.{outside}
use Rattle.tb_pivot.proofs.naming.outside.Given as goal

-- the names so far that are in neither list
abbrev pub invariant-loop-column : goal.invariant-loop-column
invariant-loop-column l = l.rest.items ≡ outside (table_of (take l.column-index l.column-items)) l.fn.names l.fn.others
