-- The requests to keep a join that bytes are, or the first reason why they are none.
use Rattle.std.specs.Prelude.{ℕ, List, [], ◌∷◌, All, map, Bool, Option, Some, option_map, Result, Ok, Err, ok_or}
use Rattle.serde_json.specs.Data.{Data}
use Rattle.serde_json.specs.View.{items_of}
use Rattle.tb_value.specs.Promise.Datum.{Datum, data_in}
use Rattle.tb_value.specs.Promise.Kind.{Part, parts_of}
use Rattle.tb_value.specs.Promise.Names.{Name}
use Rattle.tb_value.specs.Promise.Typed.{FitsFields}
use Rattle.tb_chunk.specs.Promise.Col.{Col}
use Rattle.tb_frame.specs.Promise.Table.{schema_of, table_of}
use Rattle.tb_delta.specs.Promise.State.{State, given}
use Rattle.tb_delta.specs.Promise.Steps.{Step}
use Rattle.tb_delta.specs.Promise.Steps as steps
use Rattle.tb_delta.specs.Running.{steps_of}
use Rattle.tb_json.specs.Promise.Cells as cells
use Rattle.tb_json.specs.Promise.Lists.{each}
use Rattle.tb_request.specs.declared.request.Reason.{Reason}
use Rattle.tb_request.specs.declared.request.Reason.TheVariants as why
use Rattle.tb_request.specs.Columns.{relaid_column}
use Rattle.tb_request.specs.Promise.Reading.{◌>>=◌, first_table, request_tables, second_table, value_of}
use Rattle.tb_request.specs.Promise.Written.{Written, standard_exec}
use Rattle.tb_delta_request.specs.Promise.Written as written
use Rattle.tb_delta_request.specs.Promise.Written.{WrittenStep, of_two, delta_of}
use Rattle.tb_delta_request.specs.declared.request.DeltaRequest as rust

pub record DeltaRequest : Type 0 where
  pub left : List Col
  pub right : List Col
  pub left_on : Name
  pub right_on : Name
  pub join_nulls : Bool
  pub steps : List Step

-- the name and the type of a column
abbrev pub part_of : Written → Part
part_of w = (w.name, w.kind)

-- the values of a row, one of each column's type, as those of a struct with these fields
abbrev pub row_in : List Written → List Data → Option (List Datum)
row_in columns row =
    option_map data_in (cells.row_in (parts_of (map part_of columns)) (items_of row))

abbrev pub step_in : List Written → List Written → WrittenStep → Option Step
step_in left right (written.insert side row) =
    option_map (steps.insert side) (row_in (of_two side left right) row)
step_in left right (written.remove side id) = Some (steps.remove side id)

abbrev pub steps_in : List Written → List Written → List WrittenStep → Option (List Step)
steps_in left right ws = each (step_in left right) ws

-- Each line speaks of the whole value, so the first that fails is the reason. A wrong value of a step and one of a table
-- are one reason.
unfoldable pub delta_in : Data → Result DeltaRequest Reason
delta_in d = do
  written ← ok_or (delta_of d) why.Shape
  steps ← ok_or (steps_in written.left written.right written.steps) why.Value
  tables ← request_tables (written.left ∷ written.right ∷ []) standard_exec
  Ok (record {
    left = first_table tables;
    right = second_table tables;
    left_on = written.left_on;
    right_on = written.right_on;
    join_nulls = written.join_nulls;
    steps = steps;
  })

-- the request that the bytes are, or the first reason why they are none
unfoldable pub delta_request_of : List ℕ → Result DeltaRequest Reason
delta_request_of bytes = value_of bytes >>= delta_in

-- the two tables with their rows under ids, before any step
abbrev pub asked_view : DeltaRequest → State
asked_view r = given (table_of r.left) (table_of r.right) r.left_on r.right_on r.join_nulls

-- a row that is put in has a value of each of its side's columns
abbrev pub Fits : List Part → List Part → Step → Type 0
Fits left right (steps.insert side row) = FitsFields (of_two side left right) row
Fits left right (steps.remove side id) = Unit {0}

abbrev pub AreFitting : DeltaRequest → Type 0
AreFitting r = All (Fits (schema_of (table_of r.left)) (schema_of (table_of r.right))) r.steps

-- what the program's request stands for, wherever the texts of its columns stand
abbrev pub delta_view : rust.DeltaRequest → DeltaRequest
delta_view r = record {
  left = map relaid_column r.left;
  right = map relaid_column r.right;
  left_on = r.left_on;
  right_on = r.right_on;
  join_nulls = r.join_nulls;
  steps = steps_of r.steps.items;
}
