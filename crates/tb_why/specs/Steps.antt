-- The steps of a kept join that are at fault.
use Rattle.std.specs.Prelude.{ℕ, ◌==◌, List, [], ◌∷◌, length, map, if◌then◌else◌, Option, None, is_some, option_and_then, option_map, unwrap_or, codes}
use Rattle.std.specs.List.{zip}
use Rattle.serde_json.specs.Data.{Data}
use Rattle.serde_json.specs.Find.{get}
use Rattle.tb_value.specs.Promise.Kind.{Kind}
use Rattle.tb_value.specs.declared.error.Side.{Side}
use Rattle.tb_value.specs.declared.error.Side.TheVariants as side
use Rattle.tb_json.specs.Promise.Lists.{◌>>=◌}
use Rattle.tb_request.specs.declared.request.Reason.{Reason}
use Rattle.tb_request.specs.declared.request.Reason.TheVariants as why
use Rattle.tb_delta_request.specs.Promise.Members.{insert_members, remove_members}
use Rattle.tb_delta_request.specs.Promise.Written.{of_two, side_at}
use Rattle.tb_why.specs.declared.spot.Expected.TheVariants as expected
use Rattle.tb_why.specs.Columns.{cell_spot, columns_of, items_of, kind_at}
use Rattle.tb_why.specs.Members.{members_spot}
use Rattle.tb_why.specs.Spots.{Spot, first_at, inside, or_else, unless}

-- the columns of the table that is a member of a request
abbrev pub columns_at : List ℕ → Data → List Data
columns_at name request = unwrap_or (option_map columns_of (get name request)) []

abbrev pub side_columns : Side → Data → List Data
side_columns side.Left request = columns_at (codes "left") request
side_columns side.Right request = columns_at (codes "right") request

-- ---- the members

-- a row has as many values as its side has columns
abbrev pub width_spot : Data → Data → Option Spot
width_spot request step = side_at (codes "insert") step >>= λ s. inside (codes "row") (λ row.
    unless (length (items_of row) == length (side_columns s request)) expected.Row) step

-- what has a member `insert` puts a row in, and all else takes one out
abbrev pub step_spot : Data → Data → Option Spot
step_spot request step = if is_some (get (codes "insert") step)
    then or_else (members_spot insert_members step) (width_spot request step)
    else members_spot remove_members step

-- ---- the values

-- a value that is none of its type
abbrev pub typed_cell_spot : Option Kind × Data → Option Spot
typed_cell_spot c = c.0 >>= λ t. cell_spot t c.1

-- the first value of a row that is none of its column's type
abbrev pub row_spot : List (Option Kind) → Data → Option Spot
row_spot kinds row = first_at typed_cell_spot 0 (zip kinds (items_of row))

abbrev pub kinds_at : List ℕ → Data → List (Option Kind)
kinds_at name request = map kind_at (columns_at name request)

-- where the columns of both sides are of these types
abbrev pub step_values_spot : List (Option Kind) → List (Option Kind) → Data → Option Spot
step_values_spot left right step = side_at (codes "insert") step >>= λ s.
    inside (codes "row") (row_spot (of_two s left right)) step

-- ---- the first step that is at fault for the reason

abbrev pub steps_spot : Reason → Data → Data → Option Spot
steps_spot why.Shape request steps = first_at (step_spot request) 0 (items_of steps)
steps_spot why.Value request steps =
    first_at (step_values_spot (kinds_at (codes "left") request) (kinds_at (codes "right") request))
    0 (items_of steps)
steps_spot _ request steps = None
