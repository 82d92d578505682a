-- What a plan makes of tables under names, and what is told of its faults.
use Rattle.std.proofs.Common.{◌≡◌, ◌∙◌, List, Result, Ok, Err, if◌then◌else◌, option_map, ap, sym, subst}
use mathlib.Core.Logic.{◌⊎◌, inl, inr}
use Rattle.tb_value.specs.Promise.Names.{Name}
use Rattle.tb_frame.specs.Promise.Table.{Table}
use Rattle.tb_node.specs.Promise.Pushed.{pushed}
use Rattle.tb_node.specs.Promise.Tables.{table_named}
use Rattle.tb_node.specs.Promise.Trees.{Tree}
use Rattle.tb_node.specs.Seen.{given_tables, tree_of}
use Rattle.tb_node.specs.declared.tables.NamedTable.{NamedTable}
use Rattle.tb_plan.specs.Promise.Outcome.{plan_outcome}
use Rattle.tb_plan.specs.declared.faults.PlanFault.{PlanFault}
use Rattle.tb_plan.specs.declared.faults.PlanFault.TheVariants as plan
use Rattle.tb_plan_request.specs.Lent.{pivot_view}
use Rattle.tb_front.specs.declared.fault.FrontFault.{FrontFault}
use Rattle.tb_front.specs.declared.fault.NodeTitle.{NodeTitle}
use Rattle.tb_front.specs.Promise.Due.{◌>>=◌, Gives}
use Rattle.tb_front.proofs.Dues.{IsDue, due_as, ends_here, goes_on}
use Rattle.tb_plan_front.specs.Plans.{plan_asked}
use Rattle.tb_plan_front.specs.Promise.Plans.{Asked, or_told, planned_table, run_root, titles, told}
use Rattle.tb_plan_front.specs.declared.plans.PlanCall.{PlanCall}

-- the same is given of what is the same
pub gives_as : {T X : Type 0} (seen : T → X) (r : Result T FrontFault) (due other : Result X FrontFault) → due ≡ other → Gives seen r other → Gives seen r due
gives_as seen r due other same is = subst (λ (d : Result _ FrontFault). Gives seen r d) (sym same) is

-- the tree that is run over tables that are lent, and its titles
module _ (call : PlanCall) (us ts : List NamedTable) (root : Tree) (ns : List NodeTitle) (lent : us ≡ ts)
    (is : root ≡ (if call.push then pushed (table_named (given_tables us)) (tree_of call.root) else tree_of call.root)) (named : ns ≡ titles root) where
  abbrev outcome : Result Table PlanFault
  outcome = plan_outcome (given_tables ts) root (option_map pivot_view call.pivot)

  abbrev due : Result Table FrontFault
  due = planned_table (given_tables ts) (plan_asked call)

  root_is : root ≡ run_root (given_tables ts) (plan_asked call)
  root_is = is ∙ ap (λ (xs : List NamedTable). if call.push then pushed (table_named (given_tables xs)) (tree_of call.root) else tree_of call.root) lent

  due_is : due ≡ or_told ns outcome
  due_is =
      (λ i. or_told (titles (sym root_is i)) (plan_outcome (given_tables ts) (sym root_is i) (option_map pivot_view call.pivot)))
      ∙ ap (λ (ms : List NodeTitle). or_told ms outcome) (sym named)

  pub told_table : (t : Table) → outcome ≡ Ok t → due ≡ Ok t
  told_table t made = due_is ∙ ap (or_told ns) made

  pub told_fault : (e : PlanFault) → (e ≡ plan.OutOfMemory) ⊎ (outcome ≡ Err e) → IsDue (told ns e) due
  told_fault e (inl want) = inl (ap (told ns) want)
  told_fault e (inr there) = inr (due_is ∙ ap (or_told ns) there)

-- what comes of a node whose inputs stand under names
module _ {A : Type 0} (us ts : List (Name × Table)) (given asked : Asked) (same : us ≡ ts) (is : given ≡ asked) (f : Table → Result A FrontFault) where
  asked_is : planned_table ts asked ≡ planned_table us given
  asked_is = λ i. planned_table (sym same i) (sym is i)

  pub goes_with : (t : Table) → planned_table us given ≡ Ok t → (planned_table ts asked >>= f) ≡ f t
  goes_with t made = goes_on (planned_table ts asked) f t (asked_is ∙ made)

  pub ends_with : (e : FrontFault) → IsDue e (planned_table us given) → IsDue e (planned_table ts asked >>= f)
  ends_with e there = ends_here (planned_table ts asked) f e (due_as (planned_table ts asked) (planned_table us given) e asked_is there)
