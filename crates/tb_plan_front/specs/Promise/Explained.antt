-- The nodes of a plan as they are run.
use Rattle.std.specs.Prelude.{ℕ, ◌+◌, false, List, [], ◌∷◌, ◌++◌, codes, Option, Some, None, Result, Ok, Err}
use Rattle.tb_value.specs.Promise.Names.{Name}
use Rattle.tb_frame.specs.declared.args.JoinArgs.{JoinArgs}
use Rattle.tb_frame.specs.Promise.Table.{Table, height}
use Rattle.tb_filter.specs.Promise.Filtered.{Check}
use Rattle.tb_node.specs.Promise.Tables.{Tables, table_named}
use Rattle.tb_node.specs.Promise.Trees.{Tree, table, join}
use Rattle.tb_node.specs.Promise.Trees as tree
use Rattle.tb_plan.specs.Promise.Outcome.{Pivot}
use Rattle.tb_csv.specs.declared.options.CsvOptions.{CsvOptions}
use Rattle.tb_front.specs.declared.fault.FrontFault.{FrontFault}
use Rattle.tb_front.specs.declared.fault.FrontFault.TheVariants.{UnknownTable}
use Rattle.tb_front.specs.declared.fault.NodeTitle.{NodeTitle}
use Rattle.tb_front.specs.declared.fault.NodeTitle.TheVariants as title
use Rattle.tb_front.specs.Promise.Due.{◌>>=◌}
use Rattle.tb_plan_front.specs.Promise.Plans.{Asked, planned_table, run_root, tables_of}

-- what is told of a node: how many stand over it, what it is, and how many rows its table has
pub record Line : Type 0 where
  pub depth : ℕ
  pub title : NodeTitle
  pub height : ℕ

abbrev pub line : ℕ → NodeTitle → ℕ → Line
line d n h = record { depth = d; title = n; height = h }

-- a plan of a tree alone
abbrev pub alone : Tree → Asked
alone t = record { root = t; pivot = None; push = false }

-- a node is run over the tables of its inputs, under these names
abbrev pub left_name : Name
left_name = codes "left"

abbrev pub right_name : Name
right_name = codes "right"

abbrev pub Shown : Type 0
Shown = Table × List Line

abbrev pub with_line : ℕ → NodeTitle → List Line → Table → Shown
with_line d n ls t = (t, ls ++ line d n (height t) ∷ [])

abbrev pub table_explained : ℕ → Name → Option Table → Result Shown FrontFault
table_explained d n None = Err (UnknownTable n)
table_explained d n (Some t) = Ok (with_line d (title.Table n) [] t)

abbrev pub filter_explained : ℕ → Name → Check → Shown → Result Shown FrontFault
filter_explained d c k e =
    planned_table ((left_name, e.0) ∷ []) (alone (tree.filter (table left_name) c k)) >>=
    λ t. Ok (with_line d (title.Filter c) e.1 t)

abbrev pub join_explained : ℕ → List Name → List Name → JoinArgs → Shown → Shown
    → Result Shown FrontFault
join_explained d lo ro a l r =
    planned_table ((left_name, l.0) ∷ (right_name, r.0) ∷ [])
    (alone (join (table left_name) (table right_name) lo ro a))
    >>= λ t. Ok (with_line d (title.Join lo ro) (l.1 ++ r.1) t)

-- the table of a tree at a depth, and the lines of its nodes by their numbers
abbrev pub explained : Tables → ℕ → Tree → Result Shown FrontFault
explained ts d (table n) = table_explained d n (ts n)
explained ts d (tree.filter i c k) = explained ts (d + 1) i >>= filter_explained d c k
explained ts d (join l r lo ro a) =
    explained ts (d + 1) l >>= λ s. explained ts (d + 1) r >>= λ t. join_explained d lo ro a s t

-- the lines with that of a pivot, under which all nodes stand
abbrev pub pivot_explained : Pivot → Shown → Result (List Line) FrontFault
pivot_explained p e =
    planned_table ((left_name, e.0) ∷ [])
    (record { root = table left_name; pivot = Some p; push = false }) >>=
    λ t. Ok (with_line 0 title.Pivot e.1 t).1

abbrev pub finished : Tables → Tree → Option Pivot → Result (List Line) FrontFault
finished ts root None = explained ts 0 root >>= λ e. Ok e.1
finished ts root (Some p) = explained ts 1 root >>= pivot_explained p

abbrev pub explained_plan : List (Name × Table) → Asked → Result (List Line) FrontFault
explained_plan ts a = finished (table_named ts) (run_root ts a) a.pivot

abbrev pub plan_lines : CsvOptions → List (Name × List ℕ) → Asked → Result (List Line) FrontFault
plan_lines o texts a = tables_of o texts >>= λ ts. explained_plan ts a
