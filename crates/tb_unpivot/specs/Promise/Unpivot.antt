-- A table made long: for each of some columns all rows once more, with the column's name and its value.
use Rattle.std.specs.Prelude.{ℕ, ◌*◌, nat_lt, not, List, [], ◌∷◌, ◌++◌, length, map, replicate, filter, Option, Some, None, Result, Ok, Err, unwrap_or, codes}
use Rattle.std.specs.Option.{option_map}
use Rattle.std.specs.List.{flat_map}
use Rattle.tb_value.specs.Promise.Datum.{Datum, string}
use Rattle.tb_value.specs.Promise.Kind.{Kind}
use Rattle.tb_value.specs.Promise.Kind as kind
use Rattle.tb_value.specs.Promise.Names.{Name}
use Rattle.tb_value.specs.Promise.Refusals.{first_cause, when}
use Rattle.tb_value.specs.declared.limits.TheConstants.{MAX_ROWS}
use Rattle.tb_value.specs.declared.error.InvalidCause.TheVariants.{NoSupertype}
use Rattle.tb_value.specs.declared.error.ComputeCause.TheVariants.{TooManyRows}
use Rattle.tb_value.specs.declared.error.PolarsError.{PolarsError}
use Rattle.tb_value.specs.declared.error.PolarsError.TheVariants.{InvalidOperation, ComputeError}
use Rattle.tb_chunk.specs.Promise.Col.{concatenation}
use Rattle.tb_frame.specs.Promise.Join.{columns_named}
use Rattle.tb_frame.specs.Promise.Naming.{is_among}
use Rattle.tb_frame.specs.Promise.Refusal.{repeated_among, unknown_key}
use Rattle.tb_frame.specs.Promise.Table.{TableColumn, Table, height, names_of}
use Rattle.tb_supertype.specs.Promise.Cast.{cast}
use Rattle.tb_supertype.specs.Promise.Supertype.{supertype}

-- a request: the table, the names of the columns that are put one below the other and of those that stay beside them,
-- and the names of the two columns that are made
pub record Request : Type 0 where
  pub table : Table
  pub on : List Name
  pub index : List Name
  pub variable : Name
  pub value : Name

-- the names where none is given
abbrev pub variable_or : Option Name → Name
variable_or n = unwrap_or n (codes "variable")

abbrev pub value_or : Option Name → Name
value_or n = unwrap_or n (codes "value")

-- THE COLUMNS THAT ARE NAMED

-- the given names, and where none is given those of all columns outside the index
abbrev pub on_names : Table → List Name → List Name → List Name
on_names t [] index = filter (λ n. not (is_among index n)) (names_of t)
on_names t (n ∷ ns) index = n ∷ ns

abbrev pub on_columns : Request → List TableColumn
on_columns q = columns_named q.table (on_names q.table q.on q.index)

-- THE TYPE OF THE VALUES

-- the common type of a type and the types of columns, taken one after another, or the name of the first column with
-- whose type there is none
abbrev pub common_kind : Kind → List TableColumn → Result Kind Name
common_kind t [] = Ok t
common_kind t (c ∷ cs) = elim (supertype t c.kind) [ None ↦ Err c.name | Some s ↦ common_kind s cs ]

-- that type, and Null where there is none
abbrev pub kind_or_null : Result Kind Name → Kind
kind_or_null (Ok t) = t
kind_or_null (Err n) = kind.null

-- the name that there is
abbrev pub failed_at : Result Kind Name → Option Name
failed_at (Ok t) = None
failed_at (Err n) = Some n

abbrev pub value_kind : Request → Kind
value_kind q = kind_or_null (common_kind kind.null (on_columns q))

-- THE TABLE

-- the values of a column n times over
abbrev pub repeated : ℕ → TableColumn → TableColumn
repeated n c = record c { values = concatenation (replicate n c.values) }

-- for each value of each of the columns the column's name
abbrev pub variable_column : Name → List TableColumn → TableColumn
variable_column n on = record
    { name = n; kind = kind.string; values = flat_map (λ (o : TableColumn). map (λ (v : Datum). string o.name) o.values) on }

-- the values of each of the columns, cast to a type
abbrev pub value_column : Name → Kind → List TableColumn → TableColumn
value_column n t on =
    record { name = n; kind = t; values = flat_map (λ (o : TableColumn). map (cast t) o.values) on }

-- columns of the index once for each of the columns that are put one below the other, and beside them the names of
-- those and their values, of the type t
abbrev pub long_table : Kind → List TableColumn → List TableColumn → Name → Name → Table
long_table t on index variable value =
    map (repeated (length on)) index ++ variable_column variable on ∷ value_column value t on ∷ []

abbrev pub unpivot_table : Request → Table
unpivot_table q =
    long_table (value_kind q) (on_columns q) (columns_named q.table q.index) q.variable q.value

-- WHY THERE IS NONE

abbrev pub no_supertype : List TableColumn → Option PolarsError
no_supertype on =
    option_map (λ n. InvalidOperation (NoSupertype n)) (failed_at (common_kind kind.null on))

abbrev pub too_many_values : ℕ → ℕ → Option PolarsError
too_many_values rows columns = when (nat_lt MAX_ROWS (rows * columns)) (ComputeError TooManyRows)

-- what is looked at where the table has a column
abbrev pub asked_causes : Table → List TableColumn → List Name → List Name
    → List (Option PolarsError)
asked_causes t columns on index = unknown_key t on ∷ unknown_key t index ∷ repeated_among index
    ∷ no_supertype columns ∷ too_many_values (height t) (length columns) ∷ []

abbrev pub table_causes : Table → List TableColumn → List Name → List Name
    → List (Option PolarsError)
table_causes [] columns on index = []
table_causes (c ∷ cs) columns on index = asked_causes (c ∷ cs) columns on index

abbrev pub unpivot_refusal : Request → Option PolarsError
unpivot_refusal q = first_cause
    (first_cause (table_causes q.table (on_columns q) (on_names q.table q.on q.index) q.index)
    ∷ repeated_among (names_of (unpivot_table q)) ∷ [])
