-- Rows of a table that numbers and ids name.
use Rattle.std.specs.Prelude.{◌<◌, ℕ, Bool, if◌then◌else◌, List, AllPairs}
use Rattle.tb_value.specs.declared.sorted.IsSorted.{IsSorted}
use Rattle.tb_value.specs.declared.sorted.IsSorted.TheVariants.{Ascending, Not}

-- the ids of a Left join ascend
abbrev pub row_order : Bool → IsSorted
row_order left_join = (if left_join then Ascending else Not)

-- each number is greater than those before it
abbrev pub Rise : List ℕ → Type 0
Rise rows = AllPairs ◌<◌ rows
