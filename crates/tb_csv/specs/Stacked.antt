-- Tables that stand one below the other.
use Rattle.std.specs.Prelude.{List, [], ◌∷◌, ◌++◌, map}
use Rattle.tb_value.specs.Promise.Kind.{Kind}
use Rattle.tb_frame.specs.Promise.Table.{Table, TableColumn}

-- a column with the values of another below its own
abbrev pub column_below : TableColumn → TableColumn → TableColumn
column_below c d = record c { values = c.values ++ d.values }

-- a table with the rows of another below its own. Columns are taken by their places, and those of the first give the names and types
abbrev pub below : Table → Table → Table
below [] u = []
below (c ∷ cs) [] = c ∷ cs
below (c ∷ cs) (d ∷ ds) = column_below c d ∷ below cs ds

-- the types of the columns
abbrev pub kinds_of : Table → List Kind
kinds_of t = map (λ (c : TableColumn). c.kind) t
