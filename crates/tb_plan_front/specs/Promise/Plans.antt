-- What a plan asks of texts that have names, and which text answers it.
use Rattle.std.specs.Prelude.{ℕ, List, [], ◌∷◌, ◌++◌, codes, slice_index_or, Bool, if◌then◌else◌, Option, Some, None, option_and_then, Result, Ok, Err, ok_or, ⊤}
use Rattle.std.specs.List.{flat_map}
use Rattle.std.specs.Result.{result_ok}
use Rattle.serde_json.specs.Data.{Data}
use Rattle.serde_json.specs.Find.{get}
use Rattle.tb_value.specs.Promise.Names.{Name}
use Rattle.tb_frame.specs.Promise.Table.{Table, names_of}
use Rattle.tb_node.specs.Promise.Pushed.{pushed}
use Rattle.tb_node.specs.Promise.Tables.{table_named}
use Rattle.tb_node.specs.Promise.Trees.{Tree, table, join}
use Rattle.tb_node.specs.Promise.Trees as tree
use Rattle.tb_plan.specs.Promise.Outcome.{Pivot, plan_outcome}
use Rattle.tb_plan.specs.declared.faults.PlanFault.{PlanFault}
use Rattle.tb_plan.specs.declared.faults.PlanFault.TheVariants as plan
use Rattle.tb_csv.specs.declared.options.CsvOptions.{CsvOptions}
use Rattle.tb_json.specs.Promise.Lists.{has_only}
use Rattle.tb_request.specs.Promise.Reading.{value_of}
use Rattle.tb_request.specs.Promise.Written.{truth_at}
use Rattle.tb_plan_request.specs.Promise.Written.{pivot_of, tree_in}
use Rattle.tb_front.specs.declared.fault.FrontFault.{FrontFault}
use Rattle.tb_front.specs.declared.fault.FrontFault.TheVariants.{NoPlan, RepeatedTable, UnknownTable, AtNode, TestType, OutOfMemory}
use Rattle.tb_front.specs.declared.fault.NodeTitle.{NodeTitle}
use Rattle.tb_front.specs.declared.fault.NodeTitle.TheVariants as title
use Rattle.tb_front.specs.declared.fault.Place.TheVariants.{Named}
use Rattle.tb_front.specs.declared.fault.PlanPart.TheVariants as part
use Rattle.tb_front.specs.declared.options.TextOptions.{TextOptions}
use Rattle.tb_front.specs.Promise.Due.{◌>>=◌, each_from, unless}
use Rattle.tb_front.specs.Promise.Faults.{unknown_type}
use Rattle.tb_front.specs.Promise.Texts.{table_at, written}

-- ---- the plan of a text

-- a tree of tables by their names, a pivot of what it makes, and whether filters are put before joins
pub record Asked : Type 0 where
  pub root : Tree
  pub pivot : Option Pivot
  pub push : Bool

-- Each line speaks of the whole value, so the first that fails is the part.
unfoldable pub plan_in : Data → Result Asked FrontFault
plan_in d = do
  known ← unless
      (if has_only (codes "pivot" ∷ codes "push" ∷ codes "root" ∷ []) d then None
      else Some (NoPlan part.Members))
  root ← ok_or (option_and_then tree_in (get (codes "root") d)) (NoPlan part.Root)
  pivot ← ok_or (pivot_of d) (NoPlan part.Pivot)
  push ← ok_or (truth_at (codes "push") d) (NoPlan part.Push)
  Ok (record { root = root; pivot = pivot; push = push })

-- the plan that a text is, or the first part that is none
abbrev pub plan_of : List ℕ → Result Asked FrontFault
plan_of text = ok_or (result_ok (value_of text)) (NoPlan part.Json) >>= plan_in

-- ---- the tables of texts

-- the table of a text of some number, under its name
abbrev pub named_table : CsvOptions → ℕ → Name × List ℕ → Result (Name × Table) FrontFault
named_table o k t = table_at o (Named k) t.1 >>= λ x. Ok (t.0, x)

abbrev pub names_in : List (Name × Table) → List Name
names_in ts = flat_map (λ (t : Name × Table). names_of t.1) ts

-- the same, of which one at least has each name that a type is given for
abbrev pub tables_of : CsvOptions → List (Name × List ℕ) → Result (List (Name × Table)) FrontFault
tables_of o texts = each_from (named_table o) 0 texts >>=
    λ ts. unless (unknown_type o.types.items (names_in ts) []) >>= λ _. Ok ts

-- ---- the nodes of a tree, by their numbers

abbrev pub titles : Tree → List NodeTitle
titles (table n) = title.Table n ∷ []
titles (tree.filter i c k) = titles i ++ title.Filter c ∷ []
titles (join l r lo ro a) = (titles l ++ titles r) ++ title.Join lo ro ∷ []

-- the number behind the last is that of the pivot
abbrev pub title_at : List NodeTitle → ℕ → NodeTitle
title_at ns k = slice_index_or ns k title.Pivot

-- what a fault of a plan tells of its nodes
abbrev pub told : List NodeTitle → PlanFault → FrontFault
told ns (plan.RepeatedTable n) = RepeatedTable n
told ns (plan.UnknownTable k n) = UnknownTable n
told ns (plan.At k e) = AtNode (title_at ns k) e
told ns (plan.TestType k) = TestType (title_at ns k)
told ns plan.OutOfMemory = OutOfMemory

abbrev pub or_told : List NodeTitle → Result Table PlanFault → Result Table FrontFault
or_told ns (Ok t) = Ok t
or_told ns (Err e) = Err (told ns e)

-- ---- the answer

-- the tree that is run
abbrev pub run_root : List (Name × Table) → Asked → Tree
run_root ts a = if a.push then pushed (table_named ts) a.root else a.root

-- the table that a plan makes of tables under names
abbrev pub planned_table : List (Name × Table) → Asked → Result Table FrontFault
planned_table ts a = or_told (titles (run_root ts a)) (plan_outcome ts (run_root ts a) a.pivot)

-- what a plan makes of texts under names, as a text
abbrev pub plan_text : TextOptions → List (Name × List ℕ) → Asked → Result (List ℕ) FrontFault
plan_text o texts a =
    tables_of o.csv texts >>= λ ts. planned_table ts a >>= λ t. written o.form o.csv.separator t
