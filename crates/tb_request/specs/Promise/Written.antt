-- The members of a request, whose values aren't read yet.
use Rattle.std.specs.Prelude.{ℕ, ℤ, ◌^◌, ◌==◌, ◌&&◌, ◌||◌, List, [], ◌∷◌, if◌then◌else◌, Bool, Option, Some, None, option_map, codes, false, not, true, nat_le, nat_lt}
use Rattle.std.specs.Str.{bytes_eq}
use Rattle.serde_json.specs.Data.{Data}
use Rattle.serde_json.specs.Find.{get, as_bool, as_i64, as_number, as_str, as_u64}
use Rattle.tb_value.specs.Promise.Kind as kind
use Rattle.tb_value.specs.Promise.Kind.{Kind}
use Rattle.tb_value.specs.Promise.Names.{Name}
use Rattle.tb_value.specs.declared.error.Side.{Side}
use Rattle.tb_value.specs.declared.error.Side.TheVariants as side
use Rattle.tb_value.specs.declared.sorted.IsSorted.{IsSorted}
use Rattle.tb_value.specs.declared.sorted.IsSorted.TheVariants.{Ascending, Descending, Not}
use Rattle.tb_pool.specs.Promise.ExecView.{ExecView}
use Rattle.tb_agg.specs.declared.table.Aggregate.{Aggregate}
use Rattle.tb_agg.specs.declared.table.Aggregate.TheVariants.{First, Last, Sum, Min, Max, Count}
use Rattle.tb_frame.specs.declared.args.JoinArgs.{JoinArgs}
use Rattle.tb_frame.specs.declared.null_flags.JoinNulls.{JoinNulls}
use Rattle.tb_frame.specs.declared.null_flags.JoinNulls.TheVariants.{All, Each}
use Rattle.tb_frame.specs.declared.args.JoinType.{JoinType}
use Rattle.tb_frame.specs.declared.args.JoinType.TheVariants.{Inner, Left, Right, Full, Semi, Anti}
use Rattle.tb_frame.specs.declared.args.JoinValidation.{JoinValidation}
use Rattle.tb_frame.specs.declared.args.JoinValidation.TheVariants.{ManyToMany, ManyToOne, OneToMany, OneToOne}
use Rattle.tb_frame.specs.declared.args.JoinCoalesce.{JoinCoalesce}
use Rattle.tb_frame.specs.declared.args.JoinCoalesce.TheVariants.{JoinSpecific, CoalesceColumns, KeepColumns}
use Rattle.tb_frame.specs.declared.args.MaintainOrderJoin.{MaintainOrderJoin}
use Rattle.tb_frame.specs.declared.args.MaintainOrderJoin.TheVariants as order
use Rattle.tb_json.specs.Promise.Kinds.{kind_in}
use Rattle.tb_json.specs.Promise.Lists.{◌>>=◌, check, as_list, list_of, has_only}
use Rattle.tb_request.specs.declared.shape.Format.{Format}
use Rattle.tb_request.specs.declared.shape.Format.TheVariants.{Chunks, Runs}
use Rattle.tb_request.specs.Promise.Members.{args_members, column_members, dummies_members, exec_members, join_members, names_of, pivot_members, table_members, unpivot_members}

-- a member that may be absent, which then means `absent`, and else is what f reads of it
abbrev pub optional_member : {A : Type 0} → A → (Data → Option A) → Option Data → Option A
optional_member absent f None = Some absent
optional_member absent f (Some d) = f d

-- the same, where it is a text that f reads
abbrev pub text_or : {A : Type 0} → A → (List ℕ → Option A) → Option Data → Option A
text_or absent f o = optional_member absent (λ d. as_str d >>= f) o

-- a truth value, which is false where it is absent
abbrev pub truth_at : List ℕ → Data → Option Bool
truth_at name d = optional_member false as_bool (get name d)

-- any text, where it is there
abbrev pub text_at : List ℕ → Data → Option (Option Name)
text_at name d = text_or None (λ s. Some (Some s)) (get name d)

-- the text of a member
abbrev pub name_at : List ℕ → Data → Option Name
name_at name d = get name d >>= as_str

-- the texts of a member that is a list of them
abbrev pub texts_at : List ℕ → Data → Option (List Name)
texts_at name d = get name d >>= list_of as_str

-- the same, where the member is there
abbrev pub texts_if_at : List ℕ → Data → Option (Option (List Name))
texts_if_at name d = optional_member None (λ m. option_map Some (list_of as_str m)) (get name d)

-- ---- how the columns of a request are written

-- a whole number of 64 bits that isn't negative
abbrev pub whole_of : Data → Option ℕ
whole_of d = as_number d >>= as_u64

abbrev pub format_numbered : ℕ → Option Format
format_numbered n = if n == 1 then Some Chunks else if n == 2 then Some Runs else None

-- with chunks where nothing is said
abbrev pub format_of : Data → Option Format
format_of d = optional_member Chunks (λ m. whole_of m >>= format_numbered) (get (codes "format") d)

-- ---- tables

-- a value as it stands in the text, with its count, which says how often it stands in the column
abbrev pub WrittenRun : Type 0
WrittenRun = Data × ℕ

-- the values of a column as they stand in the text
pub data WrittenValues : Type 0 where
  in_chunks : List (List Data) → WrittenValues
  in_runs : List WrittenRun → WrittenValues

-- a column with its values as they stand in the text, and the flag that is claimed of it
pub record Written : Type 0 where
  pub name : Name
  pub kind : Kind
  pub values : WrittenValues
  pub flag : IsSorted

abbrev pub flag_named : List ℕ → Option IsSorted
flag_named s =
    if bytes_eq s (codes "ascending") then Some Ascending
    else if bytes_eq s (codes "descending") then Some Descending
    else None

abbrev pub flag_of : Data → Option IsSorted
flag_of d = text_or Not flag_named (get (codes "sorted") d)

-- the values of the type are lists, or rows of fields
abbrev pub holds_values : Kind → Bool
holds_values (kind.list t) = true
holds_values (kind.struct ps) = true
holds_values _ = false

-- the count of a run: at least 1, and 1 alone of a list or of a row of fields
abbrev pub times_of : Kind → ℕ → Option ℕ
times_of t n = if nat_le 1 n && (not (holds_values t) || (n == 1)) then Some n else None

-- exactly two values, the second of which is a count
abbrev pub run_from : Kind → List Data → Option WrittenRun
run_from t [] = None
run_from t (v ∷ []) = None
run_from t (v ∷ n ∷ []) = option_map (λ times. (v, times)) (whole_of n >>= times_of t)
run_from t (v ∷ n ∷ m ∷ more) = None

abbrev pub run_of : Kind → Data → Option WrittenRun
run_of t d = as_list d >>= run_from t

-- the values of a column of the type, from the member of each format that has them
abbrev pub values_in : Format → Kind → Data → Option WrittenValues
values_in Chunks t d = option_map in_chunks (get (codes "chunks") d >>= list_of as_list)
values_in Runs t d = option_map in_runs (get (codes "runs") d >>= list_of (run_of t))

unfoldable pub column_of : Format → Data → Option Written
column_of f d = do
  known ← check (has_only (names_of (column_members f)) d)
  name ← get (codes "name") d >>= as_str
  flag ← flag_of d
  kind ← get (codes "type") d >>= kind_in
  values ← values_in f kind d
  Some (record { name = name; kind = kind; values = values; flag = flag })

unfoldable pub table_of : Format → Data → Option (List Written)
table_of f d = do
  known ← check (has_only (names_of table_members) d)
  get (codes "columns") d >>= list_of (column_of f)

abbrev pub table_at : Format → List ℕ → Data → Option (List Written)
table_at f name d = get name d >>= table_of f

-- ---- the arguments, each by its word

abbrev pub how_named : List ℕ → Option JoinType
how_named s =
    if bytes_eq s (codes "inner") then Some Inner
    else if bytes_eq s (codes "left") then Some Left
    else if bytes_eq s (codes "right") then Some Right
    else if bytes_eq s (codes "full") then Some Full
    else if bytes_eq s (codes "semi") then Some Semi
    else if bytes_eq s (codes "anti") then Some Anti
    else None

abbrev pub side_named : List ℕ → Option Side
side_named s =
    if bytes_eq s (codes "left") then Some side.Left
    else if bytes_eq s (codes "right") then Some side.Right
    else None

-- the left side is named first
abbrev pub validation_named : List ℕ → Option JoinValidation
validation_named s =
    if bytes_eq s (codes "m:m") then Some ManyToMany
    else if bytes_eq s (codes "m:1") then Some ManyToOne
    else if bytes_eq s (codes "1:m") then Some OneToMany
    else if bytes_eq s (codes "1:1") then Some OneToOne
    else None

abbrev pub coalesce_named : List ℕ → Option JoinCoalesce
coalesce_named s =
    if bytes_eq s (codes "specific") then Some JoinSpecific
    else if bytes_eq s (codes "coalesce") then Some CoalesceColumns
    else if bytes_eq s (codes "keep") then Some KeepColumns
    else None

abbrev pub order_named : List ℕ → Option MaintainOrderJoin
order_named s =
    if bytes_eq s (codes "none") then Some order.None
    else if bytes_eq s (codes "left") then Some order.Left
    else if bytes_eq s (codes "right") then Some order.Right
    else if bytes_eq s (codes "left_right") then Some order.LeftRight
    else if bytes_eq s (codes "right_left") then Some order.RightLeft
    else None

-- exactly two values, a whole number of 64 bits and one that isn't negative
abbrev pub slice_from : List Data → Option (ℤ × ℕ)
slice_from [] = None
slice_from (a ∷ []) = None
slice_from (a ∷ b ∷ []) = do
  offset ← as_number a >>= as_i64
  len ← whole_of b
  Some (offset, len)
slice_from (a ∷ b ∷ c ∷ more) = None

abbrev pub slice_in : Data → Option (Option (ℤ × ℕ))
slice_in d = option_map Some (as_list d >>= slice_from)

abbrev pub how_of : Data → Option JoinType
how_of d = (get (codes "how") d >>= as_str) >>= how_named

abbrev pub validation_of : Data → Option JoinValidation
validation_of d = text_or ManyToMany validation_named (get (codes "validation") d)

abbrev pub slice_of : Data → Option (Option (ℤ × ℕ))
slice_of d = optional_member None slice_in (get (codes "slice") d)

-- a truth value for all keys, or a list of one for each
abbrev pub nulls_from : Option Bool → Option (List Bool) → Option JoinNulls
nulls_from (Some b) flags = Some (All b)
nulls_from None flags = option_map Each flags

abbrev pub nulls_in : Data → Option JoinNulls
nulls_in d = nulls_from (as_bool d) (list_of as_bool d)

abbrev pub nulls_of : Data → Option JoinNulls
nulls_of d = optional_member (All false) nulls_in (get (codes "join_nulls") d)

abbrev pub coalesce_of : Data → Option JoinCoalesce
coalesce_of d = text_or JoinSpecific coalesce_named (get (codes "coalesce") d)

abbrev pub order_of : Data → Option MaintainOrderJoin
order_of d = text_or order.None order_named (get (codes "maintain_order") d)

unfoldable pub args_of : Data → Option JoinArgs
args_of d = do
  known ← check (has_only (names_of args_members) d)
  how ← how_of d
  validation ← validation_of d
  slice ← slice_of d
  coalesce ← coalesce_of d
  order ← order_of d
  suffix ← text_at (codes "suffix") d
  nulls ← nulls_of d
  Some (record {
    how = how;
    validation = validation;
    suffix = suffix;
    slice = slice;
    join_nulls = nulls;
    coalesce = coalesce;
    maintain_order = order;
  })

-- ---- how the work is run

-- a whole number below 2^32
abbrev pub count_of : Data → Option ℕ
count_of d = do
  n ← whole_of d
  small ← check (nat_lt n (2 ^ 32))
  Some n

abbrev pub count_at : List ℕ → Data → Option ℕ
count_at name d = get name d >>= count_of

unfoldable pub plan_of : Data → Option ExecView
plan_of d = do
  known ← check (has_only (names_of exec_members) d)
  workers ← count_at (codes "workers") d
  partitions ← count_at (codes "partitions") d
  small ← count_at (codes "small") d
  num ← count_at (codes "num") d
  den ← count_at (codes "den") d
  Some (record { workers = workers; partitions = partitions; small = small; num = num; den = den })

-- the numbers of `Exec::standard`
abbrev pub standard_exec : ExecView
standard_exec = record { workers = 4; partitions = 8; small = 256; num = 1; den = 1 }

abbrev pub exec_of : Data → Option ExecView
exec_of d = optional_member standard_exec plan_of (get (codes "exec") d)

-- ---- a request to join

pub record WrittenJoin : Type 0 where
  pub args : JoinArgs
  pub exec : ExecView
  pub left : List Written
  pub left_on : List Name
  pub right : List Written
  pub right_on : List Name
  pub trace : Bool

unfoldable pub join_of : Data → Option WrittenJoin
join_of d = do
  known ← check (has_only (names_of join_members) d)
  args ← get (codes "args") d >>= args_of
  exec ← exec_of d
  trace ← truth_at (codes "trace") d
  format ← format_of d
  left ← table_at format (codes "left") d
  left_on ← texts_at (codes "left_on") d
  right ← table_at format (codes "right") d
  right_on ← texts_at (codes "right_on") d
  Some (record {
    args = args;
    exec = exec;
    left = left;
    left_on = left_on;
    right = right;
    right_on = right_on;
    trace = trace;
  })

-- ---- a request to make a table long

pub record WrittenUnpivot : Type 0 where
  pub table : List Written
  pub on : List Name
  pub index : List Name
  pub variable_name : Option Name
  pub value_name : Option Name

unfoldable pub unpivot_of : Data → Option WrittenUnpivot
unpivot_of d = do
  known ← check (has_only (names_of unpivot_members) d)
  format ← format_of d
  table ← table_at format (codes "table") d
  on ← texts_at (codes "on") d
  index ← texts_at (codes "index") d
  variable_name ← text_at (codes "variable_name") d
  value_name ← text_at (codes "value_name") d
  Some (record {
    table = table;
    on = on;
    index = index;
    variable_name = variable_name;
    value_name = value_name;
  })

-- ---- a request for dummies

pub record WrittenDummies : Type 0 where
  pub table : List Written
  pub columns : Option (List Name)
  pub separator : Option Name
  pub drop_first : Bool

unfoldable pub dummies_of : Data → Option WrittenDummies
dummies_of d = do
  known ← check (has_only (names_of dummies_members) d)
  format ← format_of d
  table ← table_at format (codes "table") d
  columns ← texts_if_at (codes "columns") d
  separator ← text_at (codes "separator") d
  drop_first ← truth_at (codes "drop_first") d
  Some (record { table = table; columns = columns; separator = separator; drop_first = drop_first })

-- ---- a request to make a table wide

abbrev pub agg_named : List ℕ → Option Aggregate
agg_named s =
    if bytes_eq s (codes "first") then Some First
    else if bytes_eq s (codes "sum") then Some Sum
    else if bytes_eq s (codes "min") then Some Min
    else if bytes_eq s (codes "max") then Some Max
    else if bytes_eq s (codes "count") then Some Count
    else if bytes_eq s (codes "last") then Some Last
    else None

abbrev pub agg_of : Data → Option (Option Aggregate)
agg_of d = text_or None (λ s. option_map Some (agg_named s)) (get (codes "agg") d)

pub record WrittenPivot : Type 0 where
  pub table : List Written
  pub on : List Name
  pub index : Option (List Name)
  pub values : Option (List Name)
  pub sort_columns : Bool
  pub agg : Option Aggregate
  pub separator : Option Name

unfoldable pub pivot_of : Data → Option WrittenPivot
pivot_of d = do
  known ← check (has_only (names_of pivot_members) d)
  format ← format_of d
  table ← table_at format (codes "table") d
  on ← texts_at (codes "on") d
  index ← texts_if_at (codes "index") d
  values ← texts_if_at (codes "values") d
  sort_columns ← truth_at (codes "sort_columns") d
  agg ← agg_of d
  separator ← text_at (codes "separator") d
  Some (record {
    table = table;
    on = on;
    index = index;
    values = values;
    sort_columns = sort_columns;
    agg = agg;
    separator = separator;
  })
