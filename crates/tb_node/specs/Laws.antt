-- What is true of pushed filters.
use Rattle.std.specs.Prelude.{◌≡◌}
use Rattle.tb_frame.specs.Promise.Table.{Table}
use Rattle.tb_node.specs.Means.{AreTables, Means}
use Rattle.tb_node.specs.Promise.Pushed.{names_under, pushed}
use Rattle.tb_node.specs.Promise.Tables.{Tables}
use Rattle.tb_node.specs.Promise.Trees.{Tree, size}

-- What a tree means, it means with its filters pushed.
abbrev pub SameMeaning : Type 0
SameMeaning =
    (ts : Tables) (n : Tree) (t : Table) → AreTables ts → Means ts n t → Means ts (pushed ts n) t

-- Pushing changes no name of a column, and leaves as many nodes.
abbrev pub SameNames : Type 0
SameNames = (ts : Tables) (n : Tree) → names_under ts (pushed ts n) ≡ names_under ts n

abbrev pub SameSize : Type 0
SameSize = (ts : Tables) (n : Tree) → size (pushed ts n) ≡ size n
