-- The columns of a request that are at fault.
use Rattle.std.specs.Prelude.{ℕ, ℤ, ◌-◌, ◌==◌, List, [], ◌∷◌, length, map, nat_le, sum_by, Bool, true, if◌then◌else◌, Option, Some, None, is_some, unwrap_or, option_and_then, option_map, codes}
use Rattle.std.specs.List.{find}
use Rattle.serde_json.specs.Data.{Data}
use Rattle.serde_json.specs.Find.{get, as_str}
use Rattle.tb_tree.specs.View.{pair_of}
use Rattle.tb_value.specs.Promise.Datum.{Datum}
use Rattle.tb_value.specs.Promise.Kind as kind
use Rattle.tb_value.specs.Promise.Kind.{Kind}
use Rattle.tb_value.specs.Promise.Names.{Name}
use Rattle.tb_value.specs.Promise.Pairs.{row_numbers}
use Rattle.tb_value.specs.Promise.Typed.{ends}
use Rattle.tb_value.specs.declared.limits.TheConstants.{MAX_ROWS}
use Rattle.tb_value.specs.declared.sorted.IsSorted.{IsSorted}
use Rattle.tb_chunk.specs.Promise.Col.{concatenation}
use Rattle.tb_chunk.specs.RunLayout.{expansion}
use Rattle.tb_frame.specs.Promise.Refusal.{repeats}
use Rattle.tb_json.specs.Promise.Cells.{cell_in}
use Rattle.tb_json.specs.Promise.Kinds.{kind_in}
use Rattle.tb_json.specs.Promise.Lists.{◌>>=◌, as_list, check, each}
use Rattle.tb_request.specs.declared.request.Reason.{Reason}
use Rattle.tb_request.specs.declared.request.Reason.TheVariants as why
use Rattle.tb_request.specs.declared.shape.Format.{Format}
use Rattle.tb_request.specs.declared.shape.Format.TheVariants.{Chunks, Runs}
use Rattle.tb_request.specs.Promise.Columns.{run_in}
use Rattle.tb_request.specs.Promise.Flags.{flag_holds}
use Rattle.tb_request.specs.Promise.Written.{flag_of, holds_values, run_of, times_of, whole_of}
use Rattle.tb_why.specs.declared.spot.Expected.{Expected}
use Rattle.tb_why.specs.declared.spot.Expected.TheVariants as expected
use Rattle.tb_why.specs.declared.spot.Step.TheVariants.{Member, Index}
use Rattle.tb_why.specs.Spots.{Spot, spot_here, unless, under, or_else, inside, first_at, first_in_room}
use Rattle.tb_request.specs.Promise.Members.{column_members, table_members}
use Rattle.tb_why.specs.Members.{members_spot}

-- the values of an array, and those of a member that is one; none where it is none
abbrev pub items_of : Data → List Data
items_of d = unwrap_or (as_list d) []

abbrev pub items_at : List ℕ → Data → List Data
items_at name d = unwrap_or (get name d >>= as_list) []

-- what is read of a column
abbrev pub kind_at : Data → Option Kind
kind_at column = get (codes "type") column >>= kind_in

abbrev pub name_at : Data → Name
name_at column = unwrap_or (get (codes "name") column >>= as_str) []

abbrev pub chunks_at : Data → List (List Data)
chunks_at column = map items_of (items_at (codes "chunks") column)

abbrev pub runs_at : Data → List Data
runs_at column = items_at (codes "runs") column

-- how often the value of a run stands
abbrev pub times_at : Data → ℕ
times_at run = unwrap_or (pair_of run >>= λ p. whole_of p.1) 0

-- how many values it has
abbrev pub count_at : Format → Data → ℕ
count_at Chunks column = sum_by (λ (c : List Data). length c) (chunks_at column)
count_at Runs column = sum_by times_at (runs_at column)

-- ---- values that are none of the type

abbrev pub whole_expected : Option (ℤ × ℤ) → Expected
whole_expected None = expected.Null
whole_expected (Some e) = expected.Whole e.0 e.1

-- what is expected of a value of the type
abbrev pub value_expected : Kind → Expected
value_expected kind.null = expected.Null
value_expected kind.boolean = expected.Truth
value_expected kind.int128 = expected.Digits
value_expected kind.string = expected.Text
value_expected kind.binary = expected.Hexadecimal
value_expected (kind.list t) = expected.List
value_expected (kind.struct ps) = expected.Row
value_expected t = whole_expected (ends t)

abbrev pub cell_spot : Kind → Data → Option Spot
cell_spot t d = unless (is_some (cell_in t d)) (value_expected t)

abbrev pub chunk_spot : Kind → Data → Option Spot
chunk_spot t d = first_at (cell_spot t) 0 (items_of d)

abbrev pub chunks_spot : Kind → Data → Option Spot
chunks_spot t d = first_at (chunk_spot t) 0 (items_of d)

-- the value of a run
abbrev pub run_value_spot : Kind → Data → Option Spot
run_value_spot t run = pair_of run >>= λ p. under (Index 0) (cell_spot t p.0)

abbrev pub run_values_spot : Kind → Data → Option Spot
run_values_spot t d = first_at (run_value_spot t) 0 (items_of d)

abbrev pub typed_spot : Format → Kind → Data → Option Spot
typed_spot Chunks t column =
    or_else (inside (codes "chunks") (chunks_spot t) column)
    (unless (nat_le (count_at Chunks column) MAX_ROWS) expected.FewValues)
typed_spot Runs t column = inside (codes "runs") (run_values_spot t) column

-- the first value that is none of the column's type, or else the column where its chunks have too many
abbrev pub values_spot : Format → Data → Option Spot
values_spot f column = kind_at column >>= λ t. typed_spot f t column

-- ---- runs that are none

-- what is expected of the count of a run of the type
abbrev pub times_expected : Kind → Expected
times_expected t = if holds_values t then expected.Once else expected.Times

abbrev pub times_spot : Kind → Data → Option Spot
times_spot t d = unless (is_some (whole_of d >>= times_of t)) (times_expected t)

abbrev pub parts_spot : Kind → Option (Data × Data) → Option Spot
parts_spot t None = spot_here expected.Run
parts_spot t (Some p) = under (Index 1) (times_spot t p.1)

-- the run where it is no list of two, or else its count
abbrev pub run_spot : Kind → Data → Option Spot
run_spot t run = parts_spot t (pair_of run)

abbrev pub runs_spot : Kind → Data → Option Spot
runs_spot t d = first_at (run_spot t) 0 (items_of d)

-- the first run that is none of a column of its type
abbrev pub counted_spot : Format → Data → Option Spot
counted_spot Chunks column = None
counted_spot Runs column = kind_at column >>= λ t. inside (codes "runs") (runs_spot t) column

-- the first member that is at fault, or else the first run
abbrev pub shape_spot : Format → Data → Option Spot
shape_spot f column = or_else (members_spot (column_members f) column) (counted_spot f column)

-- ---- columns that are no table

-- the column where it has not as many values as the first one, which has n
abbrev pub height_spot : Format → ℕ → Data → Option Spot
height_spot f n column = unless (count_at f column == n) (expected.Height n)

-- the value of a run with its count, where it is one of a column of the type
abbrev pub run_at : Kind → Data → Option (Datum × ℕ)
run_at t run = run_of t run >>= run_in t

-- the values of a column, where they are of this type
abbrev pub values_with : Format → Data → Kind → Option (List Datum)
values_with Chunks column t = option_map concatenation (each (each (cell_in t)) (chunks_at column))
values_with Runs column t = option_map expansion (each (run_at t) (runs_at column))

-- the same, where they are no more than a column can have
abbrev pub few_values : Format → Data → Kind → Option (List Datum)
few_values f column t = do
  vs ← values_with f column t
  few ← check (nat_le (length vs) MAX_ROWS)
  Some vs

-- whether they are in the order; where it has none such, this is not at fault
abbrev pub is_ordered : Format → IsSorted → Data → Kind → Bool
is_ordered f flag column t = unwrap_or (option_map (flag_holds flag t) (few_values f column t)) true

abbrev pub flag_is_true : Format → IsSorted → Data → Bool
flag_is_true f flag column = unwrap_or (option_map (is_ordered f flag column) (kind_at column)) true

-- the column where it is not in the order that is claimed
abbrev pub flag_spot : Format → Data → Option Spot
flag_spot f column =
    flag_of column >>= λ flag. unless (flag_is_true f flag column) (expected.Ordered flag)

abbrev pub column_spot : Format → Reason → ℕ → Data → Option Spot
column_spot f why.Shape n column = shape_spot f column
column_spot f why.Value n column = values_spot f column
column_spot f why.Heights n column = height_spot f n column
column_spot f why.Flag n column = flag_spot f column
column_spot f _ n column = None

abbrev pub height : Format → List Data → ℕ
height f [] = 0
height f (c ∷ cs) = count_at f c

-- the first column that has the name of one before it
abbrev pub name_spot : List Data → Option Spot
name_spot columns = option_and_then
    (λ i. under (Index i) (under (Member (codes "name")) (spot_here expected.OtherName)))
    (find (repeats (map name_at columns)) (row_numbers (length columns)))

-- the first column that is at fault for this reason
abbrev pub columns_spot : Format → Reason → List Data → Option Spot
columns_spot f why.Name columns = name_spot columns
columns_spot f reason columns = first_at (column_spot f reason (height f columns)) 0 columns

abbrev pub columns_of : Data → List Data
columns_of table = items_at (codes "columns") table

abbrev pub table_spot : Format → Reason → Data → Option Spot
table_spot f reason table =
    or_else (members_spot table_members table)
    (under (Member (codes "columns")) (columns_spot f reason (columns_of table)))

-- ---- runs of too many values

-- the run where its count is more than what is left of the room
abbrev pub run_room_spot : ℕ → Data → Option Spot
run_room_spot room run = unless (nat_le (times_at run) room) expected.FewRunValues

abbrev pub runs_room_spot : ℕ → Data → Option Spot
runs_room_spot room d = first_in_room times_at run_room_spot room 0 (items_of d)

abbrev pub column_room_spot : ℕ → Data → Option Spot
column_room_spot room column = inside (codes "runs") (runs_room_spot room) column

-- the first run of a table for which there is no room
abbrev pub table_room_spot : ℕ → Data → Option Spot
table_room_spot room table =
    under (Member (codes "columns"))
    (first_in_room (count_at Runs) column_room_spot room 0 (columns_of table))

-- how many values the runs of a table have, and what they leave of the room
abbrev pub table_rows : Data → ℕ
table_rows table = sum_by (count_at Runs) (columns_of table)

abbrev pub room_after : ℕ → Data → ℕ
room_after room table = room - table_rows table
