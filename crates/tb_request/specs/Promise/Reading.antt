-- The requests that bytes are, or the first reason why they are none.
use Rattle.std.specs.Prelude.{◌≡◌, ℕ, List, [], ◌∷◌, ◌++◌, map, nat_le, Bool, ◌&&◌, if◌then◌else◌, Option, Some, None, is_none, option_map, Result, Ok, Err, ok_or, ⊤}
use Rattle.std.specs.List.{list_all}
use Rattle.std.specs.Str.{is_utf8}
use Rattle.serde_json.specs.Data.{Data}
use Rattle.serde_json.specs.Read.{read}
use Rattle.tb_value.specs.Promise.Names.{Name}
use Rattle.tb_value.specs.declared.error.PolarsError.{PolarsError}
use Rattle.tb_value.specs.declared.error.PolarsError.TheVariants as refused
use Rattle.tb_pool.specs.Promise.ExecView.{ExecView}
use Rattle.tb_agg.specs.declared.table.Aggregate.{Aggregate}
use Rattle.tb_chunk.specs.Promise.Col.{Col}
use Rattle.tb_frame.specs.declared.args.JoinArgs.{JoinArgs}
use Rattle.tb_frame.specs.Promise.Table.{Table, table_of, names_of}
use Rattle.tb_json.specs.Promise.Lists.{each}
use Rattle.tb_frame.specs.Promise.Frame.{are_level}
use Rattle.tb_frame.specs.Promise.Join.{Request, by_names}
use Rattle.tb_frame.specs.Promise.Refusal.{first_repeated}
use Rattle.tb_request.specs.declared.request.JoinRequest as rust_join
use Rattle.tb_request.specs.declared.request.UnpivotRequest as rust_unpivot
use Rattle.tb_request.specs.declared.request.DummiesRequest as rust_dummies
use Rattle.tb_request.specs.declared.request.PivotRequest as rust_pivot
use Rattle.tb_request.specs.declared.request.Reason.{Reason}
use Rattle.tb_request.specs.declared.request.Reason.TheVariants as why
use Rattle.tb_request.specs.declared.request.RequestFault.{RequestFault}
use Rattle.tb_request.specs.declared.request.RequestFault.TheVariants.{OutOfMemory, NoRequest}
use Rattle.tb_request.specs.Promise.Written.{Written, join_of, unpivot_of, dummies_of, pivot_of, standard_exec}
use Rattle.tb_request.specs.Promise.Columns.{columns_from, tables_fit}
use Rattle.tb_request.specs.Columns.{relaid_column}
use Rattle.tb_request.specs.Promise.Flags.{flags_hold}

pub record JoinRequest : Type 0 where
  pub left : List Col
  pub right : List Col
  pub left_on : List Name
  pub right_on : List Name
  pub args : JoinArgs
  pub exec : ExecView
  pub trace : Bool

pub record UnpivotRequest : Type 0 where
  pub table : List Col
  pub on : List Name
  pub index : List Name
  pub variable_name : Option Name
  pub value_name : Option Name

pub record DummiesRequest : Type 0 where
  pub table : List Col
  pub columns : Option (List Name)
  pub separator : Option Name
  pub drop_first : Bool

pub record PivotRequest : Type 0 where
  pub table : List Col
  pub on : List Name
  pub index : Option (List Name)
  pub values : Option (List Name)
  pub sort_columns : Bool
  pub agg : Option Aggregate
  pub separator : Option Name

infixl 10 ◌>>=◌
abbrev pub ◌>>=◌ : {A B : Type 0} → Result A Reason → (A → Result B Reason) → Result B Reason
(Ok a) >>= f = f a
(Err e) >>= f = Err e

abbrev pub only_if : Bool → Reason → Result ⊤ Reason
only_if b reason = if b then Ok tt else Err reason

-- what `MayStand` says of the numbers
abbrev pub may_count : ℕ → Bool
may_count n = nat_le 1 n && nat_le n 1024

abbrev pub may_stand : ExecView → Bool
may_stand p = may_count p.workers && may_count p.partitions && nat_le 1 p.den

abbrev pub are_distinct : List Name → Bool
are_distinct names = is_none (first_repeated names)

-- all of them are tables: in each the columns have one length, and their names are distinct
unfoldable pub are_frames : List Table → Result ⊤ Reason
are_frames tables = do
  level ← only_if (list_all are_level tables) why.Heights
  only_if (list_all (λ t. are_distinct (names_of t)) tables) why.Name

-- all of them are tables, and the flags that are claimed of their columns are true
unfoldable pub are_tables : List (List Col) → Result ⊤ Reason
are_tables tables = do
  frames ← are_frames (map table_of tables)
  only_if (list_all flags_hold tables) why.Flag

-- the tables are none for this reason, or they are tables
abbrev pub IsJudged : List (List Col) → Option Reason → Type 0
IsJudged tables None = are_tables tables ≡ Ok tt
IsJudged tables (Some reason) = are_tables tables ≡ Err reason

-- the one of two reasons why tables are none that is judged first
abbrev pub earlier_reason : Reason → Reason → Reason
earlier_reason why.Heights other = why.Heights
earlier_reason why.Name why.Flag = why.Name
earlier_reason one other = other

abbrev pub earliest_reason : Option Reason → Reason → Reason
earliest_reason None reason = reason
earliest_reason (Some first) reason = earlier_reason first reason

-- The tables of a request whose work is run by these numbers. Each line speaks of all of them, so the first that fails
-- is the reason.
unfoldable pub request_tables : List (List Written) → ExecView → Result (List (List Col)) Reason
request_tables written exec = do
  tables ← ok_or (each columns_from written) why.Value
  fit ← only_if (tables_fit written) why.Rows
  standing ← only_if (may_stand exec) why.Exec
  valid ← are_tables tables
  Ok tables

-- of a request with one table, and with two
abbrev pub first_table : List (List Col) → List Col
first_table [] = []
first_table (t ∷ ts) = t

abbrev pub second_table : List (List Col) → List Col
second_table [] = []
second_table (t ∷ ts) = first_table ts

unfoldable pub join_in : Data → Result JoinRequest Reason
join_in d = do
  written ← ok_or (join_of d) why.Shape
  tables ← request_tables (written.left ∷ written.right ∷ []) written.exec
  Ok (record {
    left = first_table tables;
    right = second_table tables;
    left_on = written.left_on;
    right_on = written.right_on;
    args = written.args;
    exec = written.exec;
    trace = written.trace;
  })

unfoldable pub unpivot_in : Data → Result UnpivotRequest Reason
unpivot_in d = do
  written ← ok_or (unpivot_of d) why.Shape
  tables ← request_tables (written.table ∷ []) standard_exec
  Ok (record {
    table = first_table tables;
    on = written.on;
    index = written.index;
    variable_name = written.variable_name;
    value_name = written.value_name;
  })

unfoldable pub dummies_in : Data → Result DummiesRequest Reason
dummies_in d = do
  written ← ok_or (dummies_of d) why.Shape
  tables ← request_tables (written.table ∷ []) standard_exec
  Ok (record {
    table = first_table tables;
    columns = written.columns;
    separator = written.separator;
    drop_first = written.drop_first;
  })

unfoldable pub pivot_in : Data → Result PivotRequest Reason
pivot_in d = do
  written ← ok_or (pivot_of d) why.Shape
  tables ← request_tables (written.table ∷ []) standard_exec
  Ok (record {
    table = first_table tables;
    on = written.on;
    index = written.index;
    values = written.values;
    sort_columns = written.sort_columns;
    agg = written.agg;
    separator = written.separator;
  })

-- the value of a text, where the bytes are UTF-8
unfoldable pub value_of : List ℕ → Result Data Reason
value_of bytes = ok_or (if is_utf8 bytes then read bytes else None) why.Json

-- the request of each command that the bytes are, or the first reason why they are none
unfoldable pub join_request_of : List ℕ → Result JoinRequest Reason
join_request_of bytes = value_of bytes >>= join_in

unfoldable pub unpivot_request_of : List ℕ → Result UnpivotRequest Reason
unpivot_request_of bytes = value_of bytes >>= unpivot_in

unfoldable pub dummies_request_of : List ℕ → Result DummiesRequest Reason
dummies_request_of bytes = value_of bytes >>= dummies_in

unfoldable pub pivot_request_of : List ℕ → Result PivotRequest Reason
pivot_request_of bytes = value_of bytes >>= pivot_in

-- what is asked of the join
abbrev pub asked_request : JoinRequest → Request
asked_request r = by_names (table_of r.left) (table_of r.right) r.left_on r.right_on r.args

-- what the program's requests stand for, wherever the texts of their columns stand
abbrev pub request_view : rust_join.JoinRequest → JoinRequest
request_view r = record {
  left = map relaid_column r.left;
  right = map relaid_column r.right;
  left_on = r.left_on.items;
  right_on = r.right_on.items;
  args = r.args;
  exec = r.exec;
  trace = r.trace;
}

abbrev pub unpivot_view : rust_unpivot.UnpivotRequest → UnpivotRequest
unpivot_view r = record {
  table = map relaid_column r.table;
  on = r.on.items;
  index = r.index.items;
  variable_name = r.variable_name;
  value_name = r.value_name;
}

abbrev pub dummies_view : rust_dummies.DummiesRequest → DummiesRequest
dummies_view r = record {
  table = map relaid_column r.table;
  columns = option_map (λ v. v.items) r.columns;
  separator = r.separator;
  drop_first = r.drop_first;
}

abbrev pub pivot_view : rust_pivot.PivotRequest → PivotRequest
pivot_view r = record {
  table = map relaid_column r.table;
  on = r.on.items;
  index = option_map (λ v. v.items) r.index;
  values = option_map (λ v. v.items) r.values;
  sort_columns = r.sort_columns;
  agg = r.agg;
  separator = r.separator;
}

-- want of memory says nothing, and a reason is the definition's
abbrev pub FaultIs : {A : Type 0} → RequestFault → Result A Reason → Type 0
FaultIs OutOfMemory r = Unit {0}
FaultIs (NoRequest reason) r = r ≡ Err reason

-- why columns that are refused make no table
abbrev pub fault_of : PolarsError → RequestFault
fault_of refused.OutOfMemory = OutOfMemory
fault_of refused.ShapeMismatch = NoRequest why.Heights
fault_of (refused.Duplicate n) = NoRequest why.Name
fault_of (refused.ColumnNotFound n) = NoRequest why.Name
fault_of (refused.InvalidOperation c) = NoRequest why.Name
fault_of (refused.ComputeError c) = NoRequest why.Name
fault_of refused.SchemaMismatch = NoRequest why.Name
