-- What is asked of a pivot.
use Rattle.std.specs.Prelude.{ℕ, Bool, ◌||◌, not, List, [], filter, Option, Some, None, unwrap_or, Result}
use Rattle.tb_value.specs.Promise.Names.{Name}
use Rattle.tb_frame.specs.Promise.Join.{columns_named}
use Rattle.tb_frame.specs.Promise.Naming.{is_among}
use Rattle.tb_frame.specs.Promise.Table.{TableColumn, Table, height, names_of}
use Rattle.tb_agg.specs.declared.table.Aggregate.{Aggregate}

-- what a cell is made by: the value of its one row; an aggregate of its rows; or what a caller's object answers for all
-- groups at once. Of such an object contracts see the name that it asks for, and the column that it answers for a table and for
-- groups of its rows (the first row of each group, and the group of each row), or the numbers that it refuses with.
pub data Way : Type 0 where
  one_row : Way
  aggregated : Aggregate → Way
  asked : Result Name ℕ → (Table → List ℕ → List ℕ → Result TableColumn ℕ) → Way

-- an aggregate where one is given, and else the value of the one row
abbrev pub way_of : Option Aggregate → Way
way_of None = one_row
way_of (Some agg) = aggregated agg

-- the table, the names of the columns whose rows become headers, those of the index and of the values, whether the columns of
-- each value are sorted by their names, how cells are made, and what stands between a value's name and a header
pub record Request : Type 0 where
  pub table : Table
  pub on : List Name
  pub index : Option (List Name)
  pub values : Option (List Name)
  pub sorts : Bool
  pub way : Way
  pub separator : Name

-- the names of the columns of a table that are in neither of two lists
abbrev pub outside : Table → List Name → List Name → List Name
outside t names others = filter (λ n. not (is_among names n || is_among others n)) (names_of t)

-- the given names, and else all that are neither headers nor in the other list
abbrev pub given_or_rest : Table → List Name → Option (List Name) → Option (List Name) → List Name
given_or_rest t on (Some names) others = names
given_or_rest t on None others = outside t on (unwrap_or others [])

abbrev pub index_names : Request → List Name
index_names q = given_or_rest q.table q.on q.index q.values

abbrev pub value_names : Request → List Name
value_names q = given_or_rest q.table q.on q.values q.index

-- what a request chooses of its table: how many rows there are, the columns whose rows become headers, those of the index and of
-- the values, and what is made of them
pub record Chosen : Type 0 where
  pub height : ℕ
  pub on : List TableColumn
  pub index : List TableColumn
  pub values : List TableColumn
  pub sorts : Bool
  pub way : Way
  pub separator : Name

abbrev pub chosen : Request → Chosen
chosen q = record {
  height = height q.table;
  on = columns_named q.table q.on;
  index = columns_named q.table (index_names q);
  values = columns_named q.table (value_names q);
  sorts = q.sorts;
  way = q.way;
  separator = q.separator;
}
