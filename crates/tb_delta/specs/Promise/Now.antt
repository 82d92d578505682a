-- The tables of the rows that there are, the join of them, and the partners of a row.
use Rattle.std.specs.Prelude.{ℕ, Bool, nat_eq, List, [], ◌∷◌, ◌++◌, filter, length, map, position, slice_index_or, Option, None}
use Rattle.std.specs.List.{enumerate_from}
use Rattle.std.specs.Option.{option_map}
use Rattle.tb_value.specs.Promise.Datum.{null}
use Rattle.tb_value.specs.Promise.Kind.{Kind}
use Rattle.tb_value.specs.Promise.Names.{Name}
use Rattle.tb_value.specs.Promise.Pairs.{row_numbers}
use Rattle.tb_value.specs.Promise.Refusals.{first_cause}
use Rattle.tb_value.specs.declared.error.PolarsError.{PolarsError}
use Rattle.tb_value.specs.declared.error.Side.{Side}
use Rattle.tb_value.specs.declared.error.Side.TheVariants as side
use Rattle.tb_frame.specs.declared.args.JoinArgs.{JoinArgs}
use Rattle.tb_frame.specs.declared.args.JoinCoalesce.TheVariants.{JoinSpecific}
use Rattle.tb_frame.specs.declared.args.JoinType.TheVariants.{Inner}
use Rattle.tb_frame.specs.declared.args.JoinValidation.TheVariants.{ManyToMany}
use Rattle.tb_frame.specs.declared.args.MaintainOrderJoin.TheVariants as order
use Rattle.tb_frame.specs.declared.null_flags.JoinNulls.TheVariants.{All}
use Rattle.tb_frame.specs.Promise.Join.{Request, by_names, matches}
use Rattle.tb_frame.specs.Promise.Refusal.{column_causes, name_causes}
use Rattle.tb_frame.specs.Promise.Table.{Table, TableColumn}
use Rattle.tb_delta.specs.Promise.State.{Row, SideState, State, of_side}

-- a column of the rows that there are: its name, its type and the fields at its place
abbrev pub column_now : List Row → ℕ × (Name × Kind) → TableColumn
column_now rows c = record
    { name = c.1.0; kind = c.1.1; values = map (λ (r : Row). slice_index_or r.1 c.0 null) rows }

abbrev pub table_now : SideState → Table
table_now s = map (column_now s.rows) (enumerate_from 0 s.columns)

-- an Inner join by the left rows and then the right ones, with nothing else asked
abbrev pub kept_args : Bool → JoinArgs
kept_args join_nulls = record {
  how = Inner;
  validation = ManyToMany;
  suffix = None;
  slice = None;
  join_nulls = All join_nulls;
  coalesce = JoinSpecific;
  maintain_order = order.LeftRight;
}

-- the join of the rows that there are
abbrev pub now : State → Request
now s = by_names (table_now s.left) (table_now s.right) (s.left.key ∷ []) (s.right.key ∷ [])
    (kept_args s.join_nulls)

-- REFUSALS

-- a key is no column, the keys are of two types or of one that has no keys, or a name of the join is repeated
abbrev pub columns_refusal : Request → Option PolarsError
columns_refusal q = first_cause (name_causes q.left q.right q.left_on q.right_on ++ column_causes q)

abbrev pub view_refusal : State → Option PolarsError
view_refusal s = columns_refusal (now s)

-- PARTNERS

abbrev pub ids_of : SideState → List ℕ
ids_of s = map (λ (r : Row). r.0) s.rows

-- the ids of the rows at these places
abbrev pub ids_at_rows : SideState → List ℕ → List ℕ
ids_at_rows s rows = map (λ i. slice_index_or (ids_of s) i 0) rows

-- the ids of the other side's rows that match the row at a place
abbrev pub partners_at : State → Side → ℕ → List ℕ
partners_at s side.Left i =
    ids_at_rows s.right (filter (λ j. matches (now s) i j) (row_numbers (length s.right.rows)))
partners_at s side.Right j =
    ids_at_rows s.left (filter (λ i. matches (now s) i j) (row_numbers (length s.left.rows)))

-- those of the row of an id; None where no row has it
abbrev pub partners : State → Side → ℕ → Option (List ℕ)
partners s side id =
    option_map (partners_at s side) (position (nat_eq id) (ids_of (of_side side s)))
