-- A request as it is lent, and the names of the columns that are replaced as the code keeps them.
use Rattle.std.specs.Prelude.{ℕ, pos, ◌==◌, Bool, true, if◌then◌else◌, List, Option, Some, None}
use Rattle.std.specs.Borrow.{Bor}
use Rattle.std.specs.Option.{option_copied}
use Rattle.tb_value.specs.Promise.Datum.{Datum, int}
use Rattle.tb_value.specs.Promise.Names.{Name}
use Rattle.tb_chunk.specs.Promise.Col.{Col}
use Rattle.tb_frame.specs.NameSets.{has_name}
use Rattle.tb_frame.specs.Promise.Table.{table_of}
use Rattle.tb_frame.specs.declared.names.NameSet.{NameSet}
use Rattle.tb_dummies.specs.Promise.Dummies.{Request}
use Rattle.tb_label.specs.Promise.Label.{separator_or}

-- the request of columns and a separator that are lent
abbrev pub lent_request : List Col → Option (List Name) → Option (Bor Name) → Bool → Request
lent_request cs columns separator drop_first = record {
  table = table_of cs;
  columns = columns;
  separator = separator_or (option_copied separator);
  drop_first = drop_first;
}

-- whether a name is in the set, where there is one
abbrev pub is_in : Option NameSet → Name → Bool
is_in None n = true
is_in (Some s) n = has_name s n

-- 1 in the rows of a group, else 0
abbrev pub mark_in : ℕ → ℕ → Datum
mark_in group n = int (pos (if n == group then 1 else 0))
