-- The rows of two sides, each under the number that it got, and what inserts and removals make of them.
use Rattle.std.specs.Prelude.{ℕ, ◌+◌, Bool, not, nat_eq, List, [], ◌∷◌, ◌++◌, filter, Option}
use Rattle.std.specs.List.{enumerate_from}
use Rattle.std.specs.Map.{lookup}
use Rattle.tb_value.specs.Promise.Datum.{Datum}
use Rattle.tb_value.specs.Promise.Kind.{Kind}
use Rattle.tb_value.specs.Promise.Names.{Name}
use Rattle.tb_value.specs.declared.error.Side.{Side}
use Rattle.tb_value.specs.declared.error.Side.TheVariants as side
use Rattle.tb_frame.specs.Promise.Table.{Table, height, rows_of, schema_of}

-- a row under its number, which is its id
abbrev pub Row : Type 0
Row = ℕ × List Datum

-- one side: the names and types of its columns, the name of its key, the rows that it has, and how many it ever had
pub record SideState : Type 0 where
  pub columns : List (Name × Kind)
  pub key : Name
  pub rows : List Row
  pub ever : ℕ

-- both sides, and whether Null keys match
pub record State : Type 0 where
  pub left : SideState
  pub right : SideState
  pub join_nulls : Bool

abbrev pub of_side : Side → State → SideState
of_side side.Left s = s.left
of_side side.Right s = s.right

abbrev pub on_side : Side → (SideState → SideState) → State → State
on_side side.Left f s = record s { left = f s.left }
on_side side.Right f s = record s { right = f s.right }

abbrev pub other : Side → Side
other side.Left = side.Right
other side.Right = side.Left

-- WHAT IS GIVEN

-- the rows of a table have the ids 0, 1, 2 and so on
abbrev pub side_of : Table → Name → SideState
side_of t key = record
    { columns = schema_of t; key = key; rows = enumerate_from 0 (rows_of t); ever = height t }

abbrev pub given : Table → Table → Name → Name → Bool → State
given left right left_on right_on join_nulls =
    record { left = side_of left left_on; right = side_of right right_on; join_nulls = join_nulls }

-- STEPS

-- a row put last, under the number of rows that the side ever had
abbrev pub appended : List Datum → SideState → SideState
appended row s = record s { rows = s.rows ++ (s.ever, row) ∷ []; ever = s.ever + 1 }

-- the row of an id taken out
abbrev pub taken_out : ℕ → SideState → SideState
taken_out id s = record s { rows = filter (λ (r : Row). not (nat_eq id r.0)) s.rows }

-- the row of an id, if there is one
abbrev pub row_of : SideState → ℕ → Option (List Datum)
row_of s id = lookup (nat_eq id) s.rows
