-- What a call answers that does many steps.
use Rattle.std.specs.Prelude.{◌≡◌, ◌<◌, ◌≤◌, ◌⊎◌, ℕ, ◌+◌, Bool, if◌then◌else◌, List, [], length, map, take, slice_index_or, Result, Ok, Err}
use Rattle.std.specs.declared.vec.Vec.{Vec}
use Rattle.std.specs.declared.alloc.Global.{Global}
use Rattle.tb_value.specs.See.{data_of}
use Rattle.tb_value.specs.declared.error.Side.TheVariants as side
use Rattle.tb_delta.specs.Promise.State.{State}
use Rattle.tb_delta.specs.Promise.Steps.{AreAccepted, IsAccepted, IsRefusedFor, Step, after, insert, remove, stepped, told, told_each}
use Rattle.tb_delta.specs.declared.fault.DeltaFault.{DeltaFault}
use Rattle.tb_delta.specs.declared.fault.DeltaFault.TheVariants as fault
use Rattle.tb_delta.specs.declared.running.Step.{Step as RustStep}
use Rattle.tb_delta.specs.declared.running.Step.TheVariants as rust
use Rattle.tb_delta.specs.declared.running.StepFault.{StepFault}

-- the step that is asked for
abbrev pub step_of : RustStep → Step
step_of (rust.Insert side row) = insert side (data_of row.items)
step_of (rust.Remove side id) = remove side id

abbrev pub steps_of : List RustStep → List Step
steps_of xs = map step_of xs

-- what a step tells, where it tells
abbrev pub told_where : Bool → State → Step → List ℕ
told_where tells s x = (if tells then told s x else [])

-- a step is not done; only where memory is wanting for telling, it is done for all that
abbrev pub IsRefused : State → Step → State → DeltaFault → Type 0
IsRefused s x n f =
    IsRefusedFor s x f × ((n ≡ s) ⊎ ((f ≡ fault.OutOfMemory) × IsAccepted s x × (n ≡ stepped s x)))

-- a step is done, and tells, or it isn't
abbrev pub IsDone : Bool → State → Step → State → Result (Vec ℕ Global) DeltaFault → Type 0
IsDone tells s x n (Ok ids) =
    IsAccepted s x × (n ≡ stepped s x) × (ids.items ≡ told_where tells s x)
IsDone tells s x n (Err f) = IsRefused s x n f

-- the lists of ids
abbrev pub lists_of : List (Vec ℕ Global) → List (List ℕ)
lists_of vs = map (λ v. v.items) vs

-- the state behind the first k steps, all accepted
pub record IsBehind (s : State) (xs : List Step) (k : ℕ) (n : State) : Type 0 where
  pub within : k ≤ length xs
  pub accepted : AreAccepted s (take k xs)
  pub state : n ≡ after s (take k xs)

-- all steps are accepted and done, and each has told; or those before one that is refused are, and this one is not, but where memory is wanting for telling
pub record IsStopped (s : State) (xs : List Step) (n : State) (f : StepFault) : Type 0 where
  pub there : f.step < length xs
  pub before : IsBehind s xs f.step (after s (take f.step xs))
  pub refused : (d : Step)
      → IsRefusedFor (after s (take f.step xs)) (slice_index_or xs f.step d) f.fault
  pub left : (IsBehind s xs f.step n)
      ⊎ ((f.fault ≡ fault.OutOfMemory) × IsBehind s xs (f.step + 1) n)

abbrev pub IsRun : State → List Step → State → Result (Vec (Vec ℕ Global) Global) StepFault → Type 0
IsRun s xs n (Ok v) = AreAccepted s xs × (n ≡ after s xs) × (lists_of v.items ≡ told_each s xs)
IsRun s xs n (Err f) = IsStopped s xs n f
