-- Calls that give what is due, or the fault that is.
use Rattle.std.specs.Prelude.{◌≡◌, ◌⊎◌, ℕ, Bool, true, false, if◌then◌else◌, Result, Ok, Err, MatchResult}
use Rattle.tb_value.specs.declared.error.PolarsError.{PolarsError}
use Rattle.tb_value.specs.declared.error.PolarsError.TheVariants as error
use Rattle.tb_plan.specs.declared.faults.PlanFault.{PlanFault}
use Rattle.tb_plan.specs.declared.faults.PlanFault.TheVariants.{OutOfMemory, At}

-- a call gives what is due as `seen` sees it, or the fault that is due, or lacks memory
abbrev pub Gives : {T X : Type 0} → (T → X) → Result T PlanFault → Result X PlanFault → Type 0
Gives seen r due = MatchResult r (λ t. due ≡ Ok (seen t)) (λ e. (e ≡ OutOfMemory) ⊎ (due ≡ Err e))

-- a refusal as the fault of a node; want of memory is that of the plan
abbrev pub is_memory : PolarsError → Bool
is_memory error.OutOfMemory = true
is_memory _ = false

abbrev pub fault_at : ℕ → PolarsError → PlanFault
fault_at k e = (if is_memory e then OutOfMemory else At k e)
