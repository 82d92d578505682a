-- A plan, one step after another.
use Rattle.std.proofs.Common.{◌≡◌, ℕ, List, ap, sym, ◌∙◌, subst, Option, Some, None, Result, Ok, Err, inl, inr}
use Rattle.std.specs.Prelude.{◌⊎◌}
use Rattle.tb_value.specs.Promise.Names.{Name}
use Rattle.tb_frame.specs.Promise.Table.{Table}
use Rattle.tb_node.specs.Promise.Tables.{Tables, table_named}
use Rattle.tb_node.specs.Promise.Trees.{Tree, size}
use Rattle.tb_plan.specs.declared.faults.PlanFault.{PlanFault}
use Rattle.tb_plan.specs.declared.faults.PlanFault.TheVariants.{OutOfMemory}
use Rattle.tb_plan.specs.Gives.{Gives}
use Rattle.tb_plan.specs.Promise.Outcome.{◌>>=◌, Pivot, outcome, pivoted, plan_outcome, repeated_table, unknown_table, unless_there}
use Rattle.tb_plan.proofs.NodeLemmas.{bound_ok}

pub gives_alike : {T X : Type 0} (seen : T → X) (r : Result T PlanFault) (due other : Result X PlanFault) → other ≡ due → Gives seen r due → Gives seen r other
gives_alike {T} {X} seen r due other same h = subst (λ (d : Result X PlanFault). Gives seen r d) (sym same) h

module _ (given : List (Name × Table)) (root : Tree) (asked : Option Pivot) where
  module _ (once : repeated_table given ≡ None) (ts : Tables) (are : (n : Name) → ts n ≡ table_named given n) where
    begins : plan_outcome given root asked ≡ (unless_there (unknown_table ts 0 root) >>= λ _. outcome ts 0 root >>= λ t. pivoted (size root) asked t)
    begins =
        ap
        (λ (o : Option PlanFault).
        unless_there o >>= λ _. unless_there (unknown_table (table_named given) 0 root) >>= λ _. outcome (table_named given) 0 root >>= λ t. pivoted (size root) asked t)
        once
        ∙ sym
        (λ i.
        unless_there (unknown_table (λ n. are n i) 0 root) >>= λ _. outcome (λ n. are n i) 0 root >>= λ t. pivoted (size root) asked t)

    pub stops_unknown : (f : PlanFault) → (f ≡ OutOfMemory) ⊎ (unknown_table ts 0 root ≡ Some f) → (f ≡ OutOfMemory) ⊎ (plan_outcome given root asked ≡ Err f)
    stops_unknown f (inl o) = inl o
    stops_unknown f (inr h) = inr (begins ∙ ap (λ (o : Option PlanFault). unless_there o >>= λ _. outcome ts 0 root >>= λ t. pivoted (size root) asked t) h)

    module _ (there : unknown_table ts 0 root ≡ None) where
      goes : plan_outcome given root asked ≡ (outcome ts 0 root >>= λ t. pivoted (size root) asked t)
      goes = begins ∙ ap (λ (o : Option PlanFault). unless_there o >>= λ _. outcome ts 0 root >>= λ t. pivoted (size root) asked t) there

      pub stops_node : (f : PlanFault) → (f ≡ OutOfMemory) ⊎ (outcome ts 0 root ≡ Err f) → (f ≡ OutOfMemory) ⊎ (plan_outcome given root asked ≡ Err f)
      stops_node f (inl o) = inl o
      stops_node f (inr h) = inr (goes ∙ ap (λ (r : Result Table PlanFault). r >>= λ t. pivoted (size root) asked t) h)

      pub ends : (t : Table) (k : ℕ) → outcome ts 0 root ≡ Ok t → k ≡ size root → plan_outcome given root asked ≡ pivoted k asked t
      ends t k is number =
          goes ∙ bound_ok (outcome ts 0 root) t (λ u. pivoted (size root) asked u) is ∙ ap (λ (m : ℕ). pivoted m asked t) (sym number)
