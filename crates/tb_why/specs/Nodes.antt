-- The nodes of a plan that are at fault.
use Rattle.std.specs.Prelude.{ℕ, List, [], ◌∷◌, if◌then◌else◌, Option, None, is_some, option_and_then, codes}
use Rattle.std.specs.List.{find}
use Rattle.std.specs.Str.{bytes_eq}
use Rattle.serde_json.specs.Data.{Data, null, boolean, number, string, array, object, Members, no_members, member}
use Rattle.serde_json.specs.Find.{as_str, get}
use Rattle.tb_value.specs.Promise.Names.{Name}
use Rattle.tb_plan_request.specs.Promise.Members.{eq_members, filter_members, join_node_members, less_members, table_node_members}
use Rattle.tb_why.specs.declared.spot.Step.TheVariants.{Member}
use Rattle.tb_why.specs.Arguments.{args_spot}
use Rattle.tb_why.specs.Members.{has_any, members_spot}
use Rattle.tb_why.specs.Spots.{Spot, inside, or_else, under}

-- an object that says how a field is compared; a word says it by itself
abbrev pub comparison_spot : Data → Option Spot
comparison_spot d =
    if is_some (as_str d) then None
    else if is_some (get (codes "less") d) then members_spot less_members d
    else members_spot eq_members d

-- what is found in the member of a name, by what is found in each
abbrev pub found_in : Name → List (Name × Option Spot) → Option Spot
found_in name found = under (Member name) (option_and_then (λ (f : Name × Option Spot). f.1)
    (find (λ (f : Name × Option Spot). bytes_eq name f.0) found))

abbrev pub filter_spot : Data → Option Spot
filter_spot d = or_else (members_spot filter_members d) (inside (codes "test") comparison_spot d)

abbrev pub join_node_spot : Data → Option Spot
join_node_spot d = or_else (members_spot join_node_members d) (inside (codes "args") args_spot d)

-- An object with a member of a filter is one, else one with a member of a join, and all else is a table. Its own members
-- come before the nodes in it.
abbrev pub node_from : Data → Option Spot → Option Spot → Option Spot → Option Spot
node_from d input left right =
    if has_any filter_members d then or_else (filter_spot d) input
    else if has_any join_node_members d then or_else (join_node_spot d) (or_else left right)
    else members_spot table_node_members d

abbrev mutual
  -- the first part of a node that is at fault
  pub node_spot : Data → Option Spot
  node_spot null = members_spot table_node_members null
  node_spot (boolean b) = members_spot table_node_members (boolean b)
  node_spot (number n) = members_spot table_node_members (number n)
  node_spot (string s) = members_spot table_node_members (string s)
  node_spot (array ds) = members_spot table_node_members (array ds)
  node_spot (object ms) = node_from (object ms) (found_in (codes "input") (nodes_found ms))
      (found_in (codes "left") (nodes_found ms)) (found_in (codes "right") (nodes_found ms))

  -- the members' names, each with what is found in its value
  pub nodes_found : Members → List (Name × Option Spot)
  nodes_found no_members = []
  nodes_found (member name d ms) = (name, node_spot d) ∷ nodes_found ms

-- the same, by the values of the members
abbrev pub node_by_members : Data → Option Spot
node_by_members d = node_from d (inside (codes "input") node_spot d)
    (inside (codes "left") node_spot d) (inside (codes "right") node_spot d)
