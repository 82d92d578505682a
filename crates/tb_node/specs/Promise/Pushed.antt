-- Filters that are put before joins.
use Rattle.std.specs.Prelude.{Bool, true, false, ◌&&◌, if◌then◌else◌, List, Option, Some, None, is_none}
use Rattle.std.specs.Option.{option_map}
use Rattle.tb_value.specs.Promise.Names.{Name}
use Rattle.tb_frame.specs.declared.args.JoinArgs.{JoinArgs}
use Rattle.tb_frame.specs.declared.args.JoinType.{JoinType}
use Rattle.tb_frame.specs.declared.args.JoinType.TheVariants.{Left}
use Rattle.tb_frame.specs.declared.args.JoinValidation.{JoinValidation}
use Rattle.tb_frame.specs.declared.args.JoinValidation.TheVariants.{ManyToMany}
use Rattle.tb_frame.specs.Naming.{answer_names}
use Rattle.tb_frame.specs.Promise.Naming.{is_among}
use Rattle.tb_frame.specs.Promise.Table.{names_of}
use Rattle.tb_filter.specs.Promise.Filtered.{Check}
use Rattle.tb_node.specs.Promise.Tables.{Tables}
use Rattle.tb_node.specs.Promise.Trees.{Tree, table, join}
use Rattle.tb_node.specs.Promise.Trees as tree

-- the names of the columns of a join, where those of its inputs are there
abbrev pub names_beside : JoinArgs → List Name → List Name → Option (List Name) → Option (List Name)
    → Option (List Name)
names_beside a lo ro (Some ls) (Some rs) = Some (answer_names a lo ro ls rs)
names_beside a lo ro _ _ = None

-- the names of a node's columns, by those of the tables; none where a table under it isn't there
abbrev pub names_under : Tables → Tree → Option (List Name)
names_under ts (table n) = option_map names_of (ts n)
names_under ts (tree.filter i c k) = names_under ts i
names_under ts (join l r lo ro a) = names_beside a lo ro (names_under ts l) (names_under ts r)

abbrev pub is_left : JoinType → Bool
is_left Left = true
is_left _ = false

abbrev pub is_many : JoinValidation → Bool
is_many ManyToMany = true
is_many _ = false

-- a Left join that no validation checks and no slice cuts
abbrev pub is_plain_left : JoinArgs → Bool
is_plain_left a = is_left a.how && is_many a.validation && is_none a.slice

-- whether a name is that of a column of the left input, and all tables are there
abbrev pub is_of_left : Option (List Name) → Option (List Name) → Name → Bool
is_of_left (Some ls) (Some rs) c = is_among ls c
is_of_left _ _ c = false

-- a filter on a column, as far down as it may stand
abbrev pub sink : Tables → Name → Check → Tree → Tree
sink ts c k (table n) = tree.filter (table n) c k
sink ts c k (tree.filter i d q) = tree.filter (tree.filter i d q) c k
sink ts c k (join l r lo ro a) =
    (if is_plain_left a && is_of_left (names_under ts l) (names_under ts r) c
    then join (sink ts c k l) r lo ro a
    else tree.filter (join l r lo ro a) c k)

-- the same plan with each filter as far down as it may stand
abbrev pub pushed : Tables → Tree → Tree
pushed ts (table n) = table n
pushed ts (join l r lo ro a) = join (pushed ts l) (pushed ts r) lo ro a
pushed ts (tree.filter i c k) = sink ts c k (pushed ts i)
