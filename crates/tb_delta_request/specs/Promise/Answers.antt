-- What a request to keep a join is answered: the join at the end and what each step told, or why it is refused.
use Rattle.std.specs.Prelude.{ℕ, ◌+◌, nat_le, List, [], ◌∷◌, Option, None, is_none, option_map}
use Rattle.std.specs.Option.{option_or}
use Rattle.tb_value.specs.Promise.Refusals.{first_cause, when}
use Rattle.tb_value.specs.declared.error.PolarsError.{PolarsError}
use Rattle.tb_value.specs.declared.limits.TheConstants.{MAX_ROWS}
use Rattle.tb_frame.specs.Promise.Join.{IsAnswer}
use Rattle.tb_frame.specs.Promise.Refusal.{too_many_rows}
use Rattle.tb_frame.specs.Promise.Table.{Table}
use Rattle.tb_delta.specs.Promise.Now.{now, view_refusal}
use Rattle.tb_delta.specs.Promise.State.{State, of_side, row_of}
use Rattle.tb_delta.specs.Promise.Steps.{Step, after, insert, remove, stepped, told_each}
use Rattle.tb_delta.specs.declared.fault.DeltaFault.{DeltaFault}
use Rattle.tb_delta.specs.declared.fault.DeltaFault.TheVariants as fault
use Rattle.tb_delta_request.specs.Promise.Reading.{DeltaRequest, asked_view}

-- REFUSALS

-- why a request is refused: the view or the table at its end, or the step of this place, counted from 0
pub data Refusal : Type 0 where
  by_operation : PolarsError → Refusal
  at_step : ℕ × DeltaFault → Refusal

-- why a step is refused whose row fits: there is no room for the row that is put in, or no row to take out
abbrev pub step_refusal : State → Step → Option DeltaFault
step_refusal s (insert side row) = when (nat_le MAX_ROWS (of_side side s).ever) fault.Full
step_refusal s (remove side id) = when (is_none (row_of (of_side side s) id)) fault.NoRow

-- the first step that is refused, where these are the steps from the n-th on, and why
abbrev pub first_refused : ℕ → State → List Step → Option (ℕ × DeltaFault)
first_refused n s [] = None
first_refused n s (x ∷ xs) =
    option_or (option_map (λ f. (n, f)) (step_refusal s x)) (first_refused (n + 1) (stepped s x) xs)

-- the state behind all steps
abbrev pub end_of : DeltaRequest → State
end_of r = after (asked_view r) r.steps

-- the view is refused, or a step, or the table at the end
abbrev pub delta_refusal : DeltaRequest → Option Refusal
delta_refusal r = first_cause (
    option_map by_operation (view_refusal (asked_view r))
    ∷ option_map at_step (first_refused 0 (asked_view r) r.steps)
    ∷ option_map by_operation (too_many_rows (now (end_of r)))
    ∷ [])

-- ANSWERS

-- what each step told
abbrev pub told_by : DeltaRequest → List (List ℕ)
told_by r = told_each (asked_view r) r.steps

-- the join of the rows that there are behind all steps
abbrev pub IsEndOf : DeltaRequest → Table → Type 0
IsEndOf r t = IsAnswer (now (end_of r)) t
