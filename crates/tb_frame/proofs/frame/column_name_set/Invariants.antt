use Rattle.std.proofs.Common.{◌≡◌, take}
use Rattle.tb_value.specs.Promise.Names.{Name}
use Rattle.tb_frame.specs.Promise.Table.{table_of, names_of}
use Rattle.tb_frame.specs.Promise.Naming.{is_among}
use Rattle.tb_frame.specs.NameSets.{has_name}
use Rattle.tb_frame.proofs.frame.column_name_set.Given as goal

-- the set has the names so far
abbrev pub invariant-loop-column : goal.invariant-loop-column
invariant-loop-column l = (n : Name) → has_name l.set n ≡ is_among (take l.column-index (names_of (table_of l.columns))) n
