use Rattle.std.proofs.Common.{◌≡◌, drop}
use Rattle.tb_frame.specs.NameSets.{has_name}
use Rattle.tb_frame.specs.Promise.Table.{table_of}
use Rattle.tb_front.specs.Promise.Asked.{first_decimals}
use Rattle.tb_front.proofs.decimals.check_undecimal.Given as goal

-- the columns that are left decide
abbrev pub invariant-loop-column : goal.invariant-loop-column
invariant-loop-column l =
    first_decimals l.types l.comparison (has_name l.names) (table_of l.table)
    ≡ first_decimals l.types l.comparison (has_name l.names) (table_of (drop l.column-index l.table))
