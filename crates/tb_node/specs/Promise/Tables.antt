-- Tables by their names.
use Rattle.std.specs.Prelude.{List, Option}
use Rattle.std.specs.List.{find}
use Rattle.std.specs.Option.{option_map}
use Rattle.tb_value.specs.Promise.Names.{Name, same_name}
use Rattle.tb_frame.specs.Promise.Table.{Table}

-- the table that a name means, if there is one
abbrev pub Tables : Type 0
Tables = Name → Option Table

-- of some tables under names the first of that name
abbrev pub table_named : List (Name × Table) → Tables
table_named given n =
    option_map (λ (t : Name × Table). t.1) (find (λ (t : Name × Table). same_name t.0 n) given)
