-- The commands that have requests, by their names.
use Rattle.std.specs.Prelude.{ℕ, List, if◌then◌else◌, Option, Some, None, codes}
use Rattle.std.specs.Str.{bytes_eq}
use Rattle.tb_why.specs.declared.spot.Command.{Command}
use Rattle.tb_why.specs.declared.spot.Command.TheVariants.{Join, Unpivot, Dummies, Pivot, Plan, Delta, Group}

abbrev pub command_named : List ℕ → Option Command
command_named s =
    if bytes_eq s (codes "join") then Some Join
    else if bytes_eq s (codes "unpivot") then Some Unpivot
    else if bytes_eq s (codes "dummies") then Some Dummies
    else if bytes_eq s (codes "pivot") then Some Pivot
    else if bytes_eq s (codes "plan") then Some Plan
    else if bytes_eq s (codes "delta") then Some Delta
    else if bytes_eq s (codes "group") then Some Group
    else None
