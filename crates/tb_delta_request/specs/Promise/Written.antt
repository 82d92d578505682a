-- The members of a request to keep a join, whose values aren't read yet.
use Rattle.std.specs.Prelude.{ℕ, ◌==◌, List, length, if◌then◌else◌, Bool, is_some, Option, Some, None, codes}
use Rattle.serde_json.specs.Data.{Data}
use Rattle.serde_json.specs.Find.{get}
use Rattle.tb_value.specs.Promise.Names.{Name}
use Rattle.tb_value.specs.declared.error.Side.{Side}
use Rattle.tb_value.specs.declared.error.Side.TheVariants as side
use Rattle.tb_json.specs.Promise.Lists.{◌>>=◌, check, as_list, list_of, has_only}
use Rattle.tb_request.specs.Promise.Members.{names_of}
use Rattle.tb_request.specs.Promise.Written.{Written, count_of, format_of, name_at, side_named, table_at, truth_at}
use Rattle.tb_delta_request.specs.Promise.Members.{delta_members, insert_members, remove_members}

-- a row that is put last on a side, with its values as they stand in the text, or the row of an id that is taken out
pub data WrittenStep : Type 0 where
  insert : Side → List Data → WrittenStep
  remove : Side → ℕ → WrittenStep

pub record WrittenDelta : Type 0 where
  pub left : List Written
  pub left_on : Name
  pub right : List Written
  pub right_on : Name
  pub join_nulls : Bool
  pub steps : List WrittenStep

abbrev pub side_at : List ℕ → Data → Option Side
side_at name d = name_at name d >>= side_named

-- the one of two that is the side's
abbrev pub of_two : {A : Type 0} → Side → A → A → A
of_two side.Left left right = left
of_two side.Right left right = right

-- a row has as many values as its side has columns
unfoldable pub insert_of : List Written → List Written → Data → Option WrittenStep
insert_of left right d = do
  known ← check (has_only (names_of insert_members) d)
  side ← side_at (codes "insert") d
  row ← get (codes "row") d >>= as_list
  whole ← check (length row == length (of_two side left right))
  Some (insert side row)

unfoldable pub remove_of : Data → Option WrittenStep
remove_of d = do
  known ← check (has_only (names_of remove_members) d)
  id ← get (codes "id") d >>= count_of
  side ← side_at (codes "remove") d
  Some (remove side id)

-- what has a member `insert` is an insert, and all else a removal
abbrev pub step_of : List Written → List Written → Data → Option WrittenStep
step_of left right d =
    if is_some (get (codes "insert") d) then insert_of left right d else remove_of d

unfoldable pub delta_of : Data → Option WrittenDelta
delta_of d = do
  known ← check (has_only (names_of delta_members) d)
  format ← format_of d
  join_nulls ← truth_at (codes "join_nulls") d
  left_on ← name_at (codes "left_on") d
  right_on ← name_at (codes "right_on") d
  left ← table_at format (codes "left") d
  right ← table_at format (codes "right") d
  steps ← get (codes "steps") d >>= list_of (step_of left right)
  Some (record {
    left = left;
    left_on = left_on;
    right = right;
    right_on = right_on;
    join_nulls = join_nulls;
    steps = steps;
  })
