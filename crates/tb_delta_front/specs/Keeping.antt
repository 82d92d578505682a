-- What is kept of a join while steps are done.
use Rattle.std.specs.Prelude.{◌≡◌, ◌⊎◌, ℕ, Bool, true, false, List, ◌++◌, All, Some, None, Result, Ok, Err, ⊤, MatchResult}
use Rattle.tb_delta.specs.Promise.State.{State, of_side}
use Rattle.tb_delta.specs.Promise.Steps as steps
use Rattle.tb_delta.specs.Promise.Steps.{after, stepped}
use Rattle.tb_delta.specs.declared.fault.DeltaFault.{DeltaFault}
use Rattle.tb_delta.specs.declared.fault.DeltaFault.TheVariants as delta
use Rattle.tb_delta_front.specs.Promise.Steps.{Fits}
use Rattle.tb_delta_front.specs.declared.deltas.KeptRows.{KeptRows}
use Rattle.tb_delta_front.specs.declared.deltas.StepRow.{StepRow}
use Rattle.tb_front.specs.declared.fault.FrontFault.{FrontFault}
use Rattle.tb_front.specs.declared.fault.FrontFault.TheVariants.{OutOfMemory, Step}
use Rattle.tb_front.specs.declared.fault.StepCause.TheVariants.{Full, NoRow}
use Rattle.tb_delta_front.specs.Deltas.{changes_of}
use Rattle.tb_delta_front.specs.Promise.Deltas.{Change, changed, changes, step_fault, steps_fault}

-- the row that a step puts in or takes out: whether it comes, its side and its id
abbrev pub step_row : State → steps.Step → StepRow
step_row s (steps.insert side row) =
    record { comes = true; side = side; id = (of_side side s).ever }
step_row s (steps.remove side id) = record { comes = false; side = side; id = id }

-- why a step that fits is not done
abbrev pub fault_at : ℕ → StepRow → DeltaFault → FrontFault
fault_at n row delta.OutOfMemory = OutOfMemory
fault_at n row delta.NoRow = Step n (NoRow row.side row.id)
fault_at n row _ = Step n Full

-- a step is done, and its pairs stand behind the others where they are kept; or it isn't, for the fault that is due
abbrev pub IsStepped : Bool → ℕ → State → steps.Step → State → List Change → List Change
    → Result ⊤ FrontFault → Type 0
IsStepped keeps n s x t old new (Ok _) =
    (step_fault n s x ≡ None) × (t ≡ stepped s x) × (keeps ≡ true → new ≡ old ++ changed n s x)
IsStepped keeps n s x t old new (Err e) = (e ≡ OutOfMemory) ⊎ (step_fault n s x ≡ Some e)

-- some steps are done, and these are left
pub record IsLeft (keeps : Bool) (first : State) (all : List steps.Step) (old : List Change) (n : ℕ)
    (s : State) (rest : List steps.Step) (now : List Change) : Type 0 where
  pub fault : steps_fault 1 first all ≡ steps_fault n s rest
  pub state : after first all ≡ after s rest
  pub told : keeps ≡ true → now ++ changes n s rest ≡ old ++ changes 1 first all
  pub fit : All (Fits s.left.columns s.right.columns) rest

-- the state behind all steps, and what they changed where that is kept
pub record IsBehind (keeps : Bool) (a : State × List steps.Step) (k : KeptRows) : Type 0 where
  pub state : k.view ≡ after a.0 a.1
  pub told : keeps ≡ true → changes_of k.changes.items ≡ changes 1 a.0 a.1

-- all is done that is asked, or the fault is told that is due
abbrev pub IsKept : Bool → Result (State × List steps.Step) FrontFault → Result KeptRows FrontFault
    → Type 0
IsKept keeps due r = MatchResult r
    (λ k. (a : State × List steps.Step) × (due ≡ Ok a) × IsBehind keeps a k) (λ e.
    (e ≡ OutOfMemory) ⊎ (due ≡ Err e))
