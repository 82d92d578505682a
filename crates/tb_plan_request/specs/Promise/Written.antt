-- The members of a request of a plan, the values of whose tables aren't read yet.
use Rattle.std.specs.Prelude.{ℕ, List, [], ◌∷◌, if◌then◌else◌, Bool, Option, Some, None, option_map, option_and_then, codes}
use Rattle.std.specs.List.{find}
use Rattle.std.specs.Str.{bytes_eq}
use Rattle.serde_json.specs.Data.{Data, null, boolean, number, string, array, object, Members, no_members, member}
use Rattle.serde_json.specs.Find.{as_integer, as_str, get}
use Rattle.tb_value.specs.Promise.Datum as value
use Rattle.tb_value.specs.Promise.Datum.{Datum}
use Rattle.tb_value.specs.Promise.Names.{Name}
use Rattle.tb_pool.specs.Promise.ExecView.{ExecView}
use Rattle.tb_pivot.specs.Promise.Request.{way_of}
use Rattle.tb_label.specs.Promise.Label.{separator_or}
use Rattle.tb_frame.specs.declared.args.JoinArgs.{JoinArgs}
use Rattle.tb_filter.specs.Promise.Filtered.{Check, is_absent, is_there, equals, less}
use Rattle.tb_node.specs.Promise.Trees.{Tree, table, join, filter}
use Rattle.tb_plan.specs.Promise.Outcome.{Pivot}
use Rattle.tb_json.specs.Promise.Lists.{◌>>=◌, check, has_only, list_of}
use Rattle.tb_request.specs.declared.shape.Format.{Format}
use Rattle.tb_request.specs.Promise.Members.{names_of}
use Rattle.tb_request.specs.Promise.Written.{Written, agg_of, args_of, exec_of, format_of, optional_member, table_at, text_at, texts_at, texts_if_at, truth_at}
use Rattle.tb_plan_request.specs.Promise.Members.{entry_members, eq_members, filter_members, join_node_members, less_members, pivot_args_members, plan_members, table_node_members}

-- ---- what is asked of a field

-- what a field may be compared with: a truth value, a whole number of 64 bits with or without sign, or a text
abbrev pub compared_in : Data → Option Datum
compared_in null = None
compared_in (boolean b) = Some (value.boolean b)
compared_in (number n) = option_map value.int (as_integer n)
compared_in (string s) = Some (value.string s)
compared_in (array ds) = None
compared_in (object ms) = None

abbrev pub test_named : List ℕ → Option Check
test_named s =
    if bytes_eq s (codes "is_null") then Some is_absent
    else if bytes_eq s (codes "is_not_null") then Some is_there
    else None

abbrev pub compared_at : List ℕ → Data → Option Datum
compared_at name d = get name d >>= compared_in

-- exactly one member, which says how the field is compared
abbrev pub comparison_in : Data → Option Check
comparison_in d =
    if has_only (names_of eq_members) d then option_map equals (compared_at (codes "eq") d)
    else if has_only (names_of less_members) d then option_map less (compared_at (codes "less") d)
    else None

abbrev pub test_from : Option (List ℕ) → Data → Option Check
test_from (Some word) d = test_named word
test_from None d = comparison_in d

-- a word, or a comparison
abbrev pub test_in : Data → Option Check
test_in d = test_from (as_str d) d

-- ---- the nodes

-- what comes of a filter's members, where its input is read
abbrev pub filter_from : Data → Option Tree → Option Tree
filter_from d input = do
  tree ← input
  column ← get (codes "column") d >>= as_str
  test ← get (codes "test") d >>= test_in
  Some (filter tree column test)

-- how a join is made, and by which keys
abbrev pub join_at : Data → Option (JoinArgs × (List Name × List Name))
join_at d = do
  args ← get (codes "args") d >>= args_of
  left_on ← texts_at (codes "left_on") d
  right_on ← texts_at (codes "right_on") d
  Some (args, (left_on, right_on))

-- what comes of a join's members, where its inputs are read
abbrev pub join_from : Data → Option Tree → Option Tree → Option Tree
join_from d left right = do
  left_tree ← left
  right_tree ← right
  asked ← join_at d
  Some (join left_tree right_tree asked.1.0 asked.1.1 asked.0)

-- the first tree of a name, where it is one
abbrev pub tree_at : Name → List (Name × Option Tree) → Option Tree
tree_at name trees = option_and_then (λ (t : Name × Option Tree). t.1)
    (find (λ (t : Name × Option Tree). bytes_eq name t.0) trees)

-- a node has exactly the members of one of three forms: a table by its name, a filter, or a join
abbrev pub tree_from : Data → List (Name × Option Tree) → Option Tree
tree_from d trees =
    if has_only (names_of table_node_members) d
    then option_map table (get (codes "table") d >>= as_str)
    else if has_only (names_of filter_members) d
    then filter_from d (tree_at (codes "input") trees)
    else if has_only (names_of join_node_members) d
    then join_from d (tree_at (codes "left") trees) (tree_at (codes "right") trees)
    else None

abbrev mutual
  -- the tree that a value is
  pub tree_in : Data → Option Tree
  tree_in null = None
  tree_in (boolean b) = None
  tree_in (number n) = None
  tree_in (string s) = None
  tree_in (array ds) = None
  tree_in (object ms) = tree_from (object ms) (trees_in ms)

  -- the members' names, each with the tree that its value is
  pub trees_in : Members → List (Name × Option Tree)
  trees_in no_members = []
  trees_in (member name d ms) = (name, tree_in d) ∷ trees_in ms

-- ---- the pivot

unfoldable pub pivot_in : Data → Option Pivot
pivot_in d = do
  known ← check (has_only (names_of pivot_args_members) d)
  on ← texts_at (codes "on") d
  index ← texts_if_at (codes "index") d
  values ← texts_if_at (codes "values") d
  sort_columns ← truth_at (codes "sort_columns") d
  agg ← agg_of d
  separator ← text_at (codes "separator") d
  Some (record {
    on = on;
    index = index;
    values = values;
    sorts = sort_columns;
    way = way_of agg;
    separator = separator_or separator;
  })

-- none is asked where the member is absent
abbrev pub pivot_of : Data → Option (Option Pivot)
pivot_of d = optional_member None (λ m. option_map Some (pivot_in m)) (get (codes "pivot") d)

-- ---- the request

-- the columns of a table, under its name
unfoldable pub table_in : Format → Data → Option (Name × List Written)
table_in f d = do
  known ← check (has_only (names_of entry_members) d)
  name ← get (codes "name") d >>= as_str
  columns ← table_at f (codes "table") d
  Some (name, columns)

pub record WrittenPlan : Type 0 where
  pub tables : List (Name × List Written)
  pub root : Tree
  pub pivot : Option Pivot
  pub push : Bool
  pub exec : ExecView

unfoldable pub written_of : Data → Option WrittenPlan
written_of d = do
  known ← check (has_only (names_of plan_members) d)
  format ← format_of d
  exec ← exec_of d
  push ← truth_at (codes "push") d
  pivot ← pivot_of d
  root ← get (codes "root") d >>= tree_in
  tables ← get (codes "tables") d >>= list_of (table_in format)
  Some (record { tables = tables; root = root; pivot = pivot; push = push; exec = exec })
