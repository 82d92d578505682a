-- What a plan answers: a table, or the first fault.
use Rattle.std.specs.Prelude.{ℕ, ◌+◌, Bool, List, map, if◌then◌else◌, Option, Some, None, Result, Ok, Err, ⊤}
use Rattle.std.specs.Option.{option_map, option_or}
use Rattle.tb_value.specs.Promise.Names.{Name}
use Rattle.tb_value.specs.Promise.Pairs.{left_first, right_first}
use Rattle.tb_value.specs.declared.error.PolarsError.{PolarsError}
use Rattle.tb_value.specs.declared.error.PolarsError.TheVariants.{ColumnNotFound}
use Rattle.tb_value.specs.declared.index.JoinPair.{JoinPair}
use Rattle.tb_frame.specs.declared.args.Direction.{Direction}
use Rattle.tb_frame.specs.declared.args.Direction.TheVariants.{Free, ByLeft, ByRight}
use Rattle.tb_frame.specs.Promise.Join.{Out, Request, by_names, column_named, cut, direction, listing, out}
use Rattle.tb_frame.specs.Promise.Refusal.{first_repeated, join_refusal}
use Rattle.tb_frame.specs.Promise.Table.{Table, TableColumn}
use Rattle.tb_rows.specs.Promise.InOrder.{in_order}
use Rattle.tb_pivot.specs.Promise.Pivot.{pivot_table}
use Rattle.tb_pivot.specs.Promise.Refusal.{pivot_refusal}
use Rattle.tb_pivot.specs.Promise.Request as pivot
use Rattle.tb_pivot.specs.Promise.Request.{Way}
use Rattle.tb_filter.specs.Promise.Filtered.{Check, may_test, rows_kept, with_rows}
use Rattle.tb_plan.specs.declared.faults.PlanFault.{PlanFault}
use Rattle.tb_plan.specs.declared.faults.PlanFault.TheVariants.{RepeatedTable, UnknownTable, At, TestType}
use Rattle.tb_node.specs.Promise.Settled.{settled}
use Rattle.tb_node.specs.Promise.Tables.{Tables, table_named}
use Rattle.tb_node.specs.Promise.Trees.{Tree, table, join, size}
use Rattle.tb_node.specs.Promise.Trees as tree

-- ONE ANSWER

-- pairs in an order
abbrev pub pairs_by : Direction → List JoinPair → List JoinPair
pairs_by Free ps = ps
pairs_by ByLeft ps = in_order left_first ps
pairs_by ByRight ps = in_order right_first ps

-- a column of the answer over some pairs
abbrev pub filled : List JoinPair → Out → TableColumn
filled ps o = record { name = o.name; kind = o.kind; values = map o.at ps }

-- the answer to a request whose order is fixed: its columns over the listing, ordered and then cut
abbrev pub the_answer : Request → Table
the_answer q = map
    (filled (cut q.args.slice (pairs_by (direction q.args.how q.args.maintain_order) (listing q))))
    (out q)

-- EACH NODE

-- the table, where there is no refusal, which is else that of the node of this number
abbrev pub unless_refused : ℕ → Option PolarsError → Table → Result Table PlanFault
unless_refused k None t = Ok t
unless_refused k (Some e) t = Err (At k e)

-- the answer to a join, where that isn't refused
unfoldable pub joined : ℕ → Request → Result Table PlanFault
joined k q = unless_refused k (join_refusal q) (the_answer q)

-- the rows that pass a test of a column, whose type is to be one that may be tested so
abbrev pub tested : ℕ → Check → Table → TableColumn → Result Table PlanFault
tested k check t c =
    (if may_test check c.kind then Ok (with_rows (rows_kept check c) t) else Err (TestType k))

-- and of the column of a name, which is to be there
abbrev pub filtered : ℕ → Name → Check → Table → Option TableColumn → Result Table PlanFault
filtered k n check t None = Err (At k (ColumnNotFound n))
filtered k n check t (Some c) = tested k check t c

infixl 10 ◌>>=◌
abbrev pub ◌>>=◌ : {A B : Type 0} → Result A PlanFault → (A → Result B PlanFault)
    → Result B PlanFault
(Ok a) >>= f = f a
(Err e) >>= f = Err e

abbrev pub or_fault : Option Table → PlanFault → Result Table PlanFault
or_fault None e = Err e
or_fault (Some t) e = Ok t

-- what a tree answers whose nodes are numbered from `first` on, inputs before the node and left before right: its first fault, or its table
abbrev pub outcome : Tables → ℕ → Tree → Result Table PlanFault
outcome ts first (table n) = or_fault (ts n) (UnknownTable first n)
outcome ts first (join l r lo ro a) = outcome ts first l >>=
    λ s.
    outcome ts (first + size l) r >>=
    λ t. joined (first + size l + size r) (by_names s t lo ro (settled a))
outcome ts first (tree.filter i n check) =
    outcome ts first i >>= λ t. filtered (first + size i) n check t (column_named t n)

-- THE PLAN

-- the first name that stood before
abbrev pub repeated_table : List (Name × Table) → Option PlanFault
repeated_table given =
    option_map (λ n. RepeatedTable n) (first_repeated (map (λ (t : Name × Table). t.0) given))

abbrev pub unless_known : Option Table → PlanFault → Option PlanFault
unless_known None e = Some e
unless_known (Some t) e = None

-- the first node of a tree whose table is none of these
abbrev pub unknown_table : Tables → ℕ → Tree → Option PlanFault
unknown_table ts first (table n) = unless_known (ts n) (UnknownTable first n)
unknown_table ts first (join l r lo ro a) =
    option_or (unknown_table ts first l) (unknown_table ts (first + size l) r)
unknown_table ts first (tree.filter i n check) = unknown_table ts first i

-- what is asked of a pivot but its table
pub record Pivot : Type 0 where
  pub on : List Name
  pub index : Option (List Name)
  pub values : Option (List Name)
  pub sorts : Bool
  pub way : Way
  pub separator : Name

abbrev pub pivot_of : Pivot → Table → pivot.Request
pivot_of p t = record
    { table = t; on = p.on; index = p.index; values = p.values; sorts = p.sorts; way = p.way; separator = p.separator }

-- a table made wide, where that isn't refused
unfoldable pub widened : ℕ → pivot.Request → Result Table PlanFault
widened k q = unless_refused k (pivot_refusal q) (pivot_table q)

-- the table made wide, where that is asked, under the number behind those of the nodes
abbrev pub pivoted : ℕ → Option Pivot → Table → Result Table PlanFault
pivoted k None t = Ok t
pivoted k (Some p) t = widened k (pivot_of p t)

abbrev pub unless_there : Option PlanFault → Result ⊤ PlanFault
unless_there None = Ok tt
unless_there (Some e) = Err e

-- what a plan answers over some tables: first no name may be repeated, then each table of the tree is to be there
abbrev pub plan_outcome : List (Name × Table) → Tree → Option Pivot → Result Table PlanFault
plan_outcome given root asked =
    unless_there (repeated_table given) >>=
    λ _. unless_there (unknown_table (table_named given) 0 root)
    >>= λ _. outcome (table_named given) 0 root >>= λ t. pivoted (size root) asked t
