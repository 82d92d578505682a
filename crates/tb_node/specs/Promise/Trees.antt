-- Plans as trees: tables by their names, joins and filters of them.
use Rattle.std.specs.Prelude.{ℕ, ◌+◌, List}
use Rattle.tb_value.specs.Promise.Names.{Name}
use Rattle.tb_frame.specs.declared.args.JoinArgs.{JoinArgs}
use Rattle.tb_filter.specs.Promise.Filtered.{Check}

-- a table, the join of two trees by keys of these names, or what passes of a tree a test of the column of a name
pub data Tree : Type 0 where
  table : Name → Tree
  join : Tree → Tree → List Name → List Name → JoinArgs → Tree
  filter : Tree → Name → Check → Tree

-- how many nodes a tree has, itself too
abbrev pub size : Tree → ℕ
size (table n) = 1
size (join l r lo ro a) = size l + size r + 1
size (filter i c k) = size i + 1
