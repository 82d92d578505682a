-- What is true of requests and of trees that are read.
use Rattle.std.specs.Prelude.{◌≡◌, if◌then◌else◌, Option, Some, None, option_map, codes}
use Rattle.serde_json.specs.Data.{Data}
use Rattle.serde_json.specs.Find.{as_str, get}
use Rattle.tb_json.specs.Promise.Lists.{◌>>=◌, has_only}
use Rattle.tb_node.specs.Promise.Trees.{Tree, table}
use Rattle.tb_request.specs.declared.shape.Format.TheVariants.{Runs}
use Rattle.tb_request.specs.Forms.{IsPastRows}
use Rattle.tb_request.specs.Promise.Members.{names_of}
use Rattle.tb_request.specs.Promise.Written.{format_of}
use Rattle.tb_plan_request.specs.Forms.{expand_plan}
use Rattle.tb_plan_request.specs.Promise.Members.{filter_members, join_node_members, table_node_members}
use Rattle.tb_plan_request.specs.Promise.Reading.{plan_in}
use Rattle.tb_plan_request.specs.Promise.Written.{filter_from, join_from, tree_in}

-- the tree that comes of the trees of a value's members
abbrev pub tree_by_members : Data → Option Tree
tree_by_members d =
    if has_only (names_of table_node_members) d
    then option_map table (get (codes "table") d >>= as_str)
    else if has_only (names_of filter_members) d
    then filter_from d (get (codes "input") d >>= tree_in)
    else if has_only (names_of join_node_members) d
    then join_from d (get (codes "left") d >>= tree_in) (get (codes "right") d >>= tree_in)
    else None

-- A value is a tree by the trees that its members are.
abbrev pub ByMembers : Type 0
ByMembers = (d : Data) → tree_in d ≡ tree_by_members d

-- Where no reason up to `Rows` holds, a request in runs is the one with these values in chunks.
abbrev pub TwoForms : Type 0
TwoForms = (d : Data) → format_of d ≡ Some Runs → IsPastRows (plan_in d)
    → plan_in (expand_plan d) ≡ plan_in d
