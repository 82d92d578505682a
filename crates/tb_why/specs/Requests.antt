-- Why bytes are no request of a command, and where.
use Rattle.std.specs.Prelude.{ℕ, List, [], map, Option, Some, None, option_map, unwrap_or, codes, Result, Ok, Err, ◌≡◌, ⊤}
use Rattle.serde_json.specs.Data.{Data, null}
use Rattle.serde_json.specs.Find.{get}
use Rattle.tb_request.specs.declared.request.Reason.{Reason}
use Rattle.tb_request.specs.declared.request.Reason.TheVariants as why
use Rattle.tb_request.specs.declared.runs.TheConstants.{MAX_RUN_VALUES}
use Rattle.tb_request.specs.declared.shape.Format.{Format}
use Rattle.tb_request.specs.declared.shape.Format.TheVariants.{Chunks}
use Rattle.tb_request.specs.Promise.Members.{Known, dummies_members, exec_members, join_members, pivot_members, standing_members, unpivot_members}
use Rattle.tb_request.specs.Promise.Written.{format_of}
use Rattle.tb_request.specs.Promise.Reading.{join_request_of, unpivot_request_of, dummies_request_of, pivot_request_of, value_of}
use Rattle.tb_plan_request.specs.Promise.Members.{entry_members, pivot_args_members, plan_members}
use Rattle.tb_plan_request.specs.Promise.Reading.{plan_request_of}
use Rattle.tb_delta_request.specs.Promise.Members.{delta_members}
use Rattle.tb_delta_request.specs.Promise.Reading.{delta_request_of}
use Rattle.tb_group_request.specs.Promise.Members.{agg_members, group_members}
use Rattle.tb_group_request.specs.Promise.Reading.{group_request_of}
use Rattle.tb_why.specs.declared.spot.Command.{Command}
use Rattle.tb_why.specs.declared.spot.Command.TheVariants as command
use Rattle.tb_why.specs.declared.spot.Expected.TheVariants as expected
use Rattle.tb_why.specs.declared.spot.Fault as rust
use Rattle.tb_why.specs.declared.spot.Place.{Place}
use Rattle.tb_why.specs.declared.spot.Place.TheVariants as place
use Rattle.tb_why.specs.Arguments.{args_spot}
use Rattle.tb_why.specs.Columns.{items_of, room_after, table_room_spot, table_rows, table_spot}
use Rattle.tb_why.specs.Members.{members_spot}
use Rattle.tb_why.specs.Nodes.{node_spot}
use Rattle.tb_why.specs.Spots.{Spot, first_at, first_in_room, inside, or_else}
use Rattle.tb_why.specs.Steps.{steps_spot}

abbrev pub refusal : {A : Type 0} → Result A Reason → Option Reason
refusal (Ok a) = None
refusal (Err reason) = Some reason

-- the reason why the bytes are no request of the command
abbrev pub reason_of : Command → List ℕ → Option Reason
reason_of command.Join bytes = refusal (join_request_of bytes)
reason_of command.Unpivot bytes = refusal (unpivot_request_of bytes)
reason_of command.Dummies bytes = refusal (dummies_request_of bytes)
reason_of command.Pivot bytes = refusal (pivot_request_of bytes)
reason_of command.Plan bytes = refusal (plan_request_of bytes)
reason_of command.Delta bytes = refusal (delta_request_of bytes)
reason_of command.Group bytes = refusal (group_request_of bytes)

abbrev pub members_of : Command → List Known
members_of command.Join = join_members
members_of command.Unpivot = unpivot_members
members_of command.Dummies = dummies_members
members_of command.Pivot = pivot_members
members_of command.Plan = plan_members
members_of command.Delta = delta_members
members_of command.Group = group_members

abbrev pub exec_known : Reason → List Known
exec_known why.Exec = standing_members
exec_known _ = exec_members

-- the first of the numbers by which work is run
abbrev pub exec_spot : Reason → Data → Option Spot
exec_spot reason d = inside (codes "exec") (members_spot (exec_known reason)) d

-- ---- the tables

-- the values that all runs may have, and what those of the left table leave of them
abbrev pub right_room : Data → ℕ
right_room d =
    unwrap_or (option_map (room_after MAX_RUN_VALUES) (get (codes "left") d)) MAX_RUN_VALUES

-- the first of both tables
abbrev pub sides_spot : Format → Reason → Data → Option Spot
sides_spot f why.Rows d =
    or_else (inside (codes "left") (table_room_spot MAX_RUN_VALUES) d)
    (inside (codes "right") (table_room_spot (right_room d)) d)
sides_spot f reason d =
    or_else (inside (codes "left") (table_spot f reason) d)
    (inside (codes "right") (table_spot f reason) d)

-- the first of the only table
abbrev pub only_spot : Format → Reason → Data → Option Spot
only_spot f why.Rows d = inside (codes "table") (table_room_spot MAX_RUN_VALUES) d
only_spot f reason d = inside (codes "table") (table_spot f reason) d

-- the table that stands under its name
abbrev pub entry_table : Data → Data
entry_table entry = unwrap_or (get (codes "table") entry) null

abbrev pub entry_rows : Data → ℕ
entry_rows entry = table_rows (entry_table entry)

-- the name of a table, or the table
abbrev pub entry_spot : Format → Reason → Data → Option Spot
entry_spot f reason entry =
    or_else (members_spot entry_members entry) (inside (codes "table") (table_spot f reason) entry)

abbrev pub entry_room_spot : ℕ → Data → Option Spot
entry_room_spot room entry = inside (codes "table") (table_room_spot room) entry

-- the first of all tables under names
abbrev pub entries_spot : Format → Reason → Data → Option Spot
entries_spot f why.Rows d =
    first_in_room entry_rows entry_room_spot MAX_RUN_VALUES 0 (items_of d)
entries_spot f reason d = first_at (entry_spot f reason) 0 (items_of d)

-- ---- the requests

-- the first column that is made of groups
abbrev pub aggs_spot : Data → Option Spot
aggs_spot d = first_at (members_spot agg_members) 0 (items_of d)

-- the first part of a plan
abbrev pub plan_spot : Data → Option Spot
plan_spot d =
    or_else (inside (codes "pivot") (members_spot pivot_args_members) d)
    (inside (codes "root") node_spot d)

-- the first that is at fault for the reason inside the members of a request
abbrev pub parts_spot : Command → Format → Reason → Data → Option Spot
parts_spot command.Join f reason d =
    or_else (inside (codes "args") args_spot d)
    (or_else (exec_spot reason d) (sides_spot f reason d))
parts_spot command.Plan f reason d =
    or_else (plan_spot d)
    (or_else (exec_spot reason d) (inside (codes "tables") (entries_spot f reason) d))
parts_spot command.Delta f reason d =
    or_else (sides_spot f reason d) (inside (codes "steps") (steps_spot reason d) d)
parts_spot command.Group f reason d =
    or_else (inside (codes "aggs") aggs_spot d)
    (or_else (exec_spot reason d) (only_spot f reason d))
parts_spot _ f reason d = only_spot f reason d

-- how the columns are written
abbrev pub format_at : Data → Format
format_at d = unwrap_or (format_of d) Chunks

-- the first member, or part of one, that is at fault for the reason
abbrev pub request_spot : Command → Reason → Data → Option Spot
request_spot command reason d =
    or_else (members_spot (members_of command) d) (parts_spot command (format_at d) reason d)

-- the same, and the whole where there is none
abbrev pub spot_at : Command → Reason → Data → Spot
spot_at command reason d =
    unwrap_or (request_spot command reason d) (record { path = []; expected = expected.Request })

-- the place of a fault in a JSON value; in a text that is none it is free
abbrev pub IsAt : Place → Spot → Type 0
IsAt (place.Path steps) s = steps.items ≡ s.path
IsAt (place.Text line column) s = ⊥

-- where the bytes are the text of a JSON value, the fault is at the place in it
abbrev pub IsPlaced : Command → List ℕ → rust.Fault → Type 0
IsPlaced command bytes f = (d : Data) → value_of bytes ≡ Ok d
    → IsAt f.place (spot_at command f.reason d)
    × (f.expected ≡ (spot_at command f.reason d).expected)

abbrev pub IsInText : Place → Type 0
IsInText (place.Path steps) = ⊥
IsInText (place.Text line column) = ⊤

-- where they are no such text, the fault is at a place in them, and that text is expected
abbrev pub IsPlacedInText : List ℕ → rust.Fault → Type 0
IsPlacedInText bytes f =
    value_of bytes ≡ Err why.Json → IsInText f.place × (f.expected ≡ expected.Json)
