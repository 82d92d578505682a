-- Tables: what a column and a table are to a join. Chunks and flags don't show.
use Rattle.std.specs.Prelude.{◌≡◌, ◌≢◌, ℕ, List, [], ◌∷◌, length, map, All, AllPairs, slice_index_or}
use Rattle.std.specs.Cmp.Lexicographic.{slice_cmp}
use Rattle.std.specs.Ordering.{nat_cmp}
use Rattle.std.specs.declared.cmp.Ordering.{Ordering}
use Rattle.tb_value.specs.Promise.Datum.{Datum, null}
use Rattle.tb_value.specs.Promise.Kind.{Kind}
use Rattle.tb_value.specs.Promise.Names.{Name}
use Rattle.tb_value.specs.Promise.Pairs.{row_numbers}
use Rattle.tb_value.specs.Promise.Typed.{HasType}
use Rattle.tb_chunk.specs.Promise.Col.{Col, values}

-- a column is a name, a type and a list of values, where Null stands for absence
pub record TableColumn : Type 0 where
  pub name : Name
  pub kind : Kind
  pub values : List Datum

-- a table is a list of columns
abbrev pub Table : Type 0
Table = List TableColumn

-- the table of columns that are cut into chunks
abbrev pub plain_column : Col → TableColumn
plain_column c = record { name = c.name; kind = c.kind; values = values c }

abbrev pub table_of : List Col → Table
table_of cs = map plain_column cs

-- the length of the columns, and 0 where there is none
abbrev pub height : Table → ℕ
height [] = 0
height (c ∷ cs) = length c.values

abbrev pub names_of : Table → List Name
names_of t = map (λ (c : TableColumn). c.name) t

-- columns compared by the bytes of their names
abbrev pub by_name : TableColumn → TableColumn → Ordering
by_name c d = slice_cmp nat_cmp c.name d.name

-- each value is of the column's type
abbrev pub IsTyped : TableColumn → Type 0
IsTyped c = All (HasType c.kind) c.values

-- names are distinct, all lists have one length, and each value is of its column's type
pub record IsTable (t : Table) : Type 0 where
  pub distinct : AllPairs (λ (a b : Name). a ≢ b) (names_of t)
  pub one_height : All (λ (c : TableColumn). length c.values ≡ height t) t
  pub typed : All IsTyped t

-- the fields of row i, and the rows of the table in order
abbrev pub row_at : Table → ℕ → List Datum
row_at t i = map (λ (c : TableColumn). slice_index_or c.values i null) t

abbrev pub rows_of : Table → List (List Datum)
rows_of t = map (row_at t) (row_numbers (height t))

-- the names and types
abbrev pub schema_of : Table → List (Name × Kind)
schema_of t = map (λ (c : TableColumn). (c.name, c.kind)) t
