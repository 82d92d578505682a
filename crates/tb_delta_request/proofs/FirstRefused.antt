-- Which step is refused first, and why.
use Rattle.std.proofs.Common.{◌≡◌, ◌∙◌, ◌⊎◌, inl, inr, ℕ, zero, suc, ◌+◌, ◌<◌, ◌≤◌, Bool, true, false, nat_le, List, [], ◌∷◌, length, get_or, take, Option, Some, None, option_map, refl, ap, arith, sym, subst}
use Rattle.std.specs.Prelude.{All, IsSome, is_none, Result, Ok, Err}
use Rattle.std.specs.Option.{option_or}
use Rattle.std.specs.declared.vec.Vec.{Vec}
use Rattle.std.specs.declared.alloc.Global.{Global}
use Rattle.tb_value.specs.Promise.Datum.{Datum}
use Rattle.tb_value.specs.Promise.Kind.{Part}
use Rattle.tb_value.specs.Promise.Refusals.{when}
use Rattle.tb_value.specs.declared.error.Side.{Side}
use Rattle.tb_value.specs.declared.error.Side.TheVariants as side
use Rattle.tb_value.specs.declared.limits.TheConstants.{MAX_ROWS}
use Rattle.tb_delta.specs.Promise.State.{State, of_side, row_of}
use Rattle.tb_delta.specs.Promise.Steps.{AreAccepted, IsAccepted, IsRefusedFor, Step, after, insert, remove, stepped}
use Rattle.tb_delta.specs.Running.{IsRun, IsStopped}
use Rattle.tb_delta.specs.declared.fault.DeltaFault.{DeltaFault}
use Rattle.tb_delta.specs.declared.fault.DeltaFault.TheVariants as fault
use Rattle.tb_delta.specs.declared.running.StepFault.{StepFault}
use Rattle.tb_delta_request.specs.Promise.Answers.{first_refused, step_refusal}
use Rattle.tb_delta_request.specs.Promise.Reading.{Fits}

-- A STEP

not_none : {A : Type 0} (o : Option A) → IsSome o → is_none o ≡ false
not_none None h = absurd (cc)
not_none (Some a) h = refl

-- an accepted step is not refused
not_refused : (s : State) (x : Step) → IsAccepted s x → step_refusal s x ≡ None
not_refused s (insert d row) a =
    let room : nat_le MAX_ROWS (of_side d s).ever ≡ false = grind (arith, a.1) in
    ap (λ b. when b fault.Full) room
not_refused s (remove d id) a = ap (λ b. when b fault.NoRow) (not_none (row_of (of_side d s) id) a)

-- the columns of both sides, which no step changes
abbrev FitsState : State → Step → Type 0
FitsState s x = Fits s.left.columns s.right.columns x

-- a refused step whose row fits is refused for this cause, if memory is not wanting
refused : (s : State) (x : Step) (f : DeltaFault) → FitsState s x → IsRefusedFor s x f → (f ≡ fault.OutOfMemory) ⊎ (step_refusal s x ≡ Some f)
refused s (insert side.Left row) fault.Schema fits h = absurd (h fits)
refused s (insert side.Right row) fault.Schema fits h = absurd (h fits)
refused s (insert d row) fault.Full fits h =
    let full : nat_le MAX_ROWS (of_side d s).ever ≡ true = grind (arith, h.1) in
    inr (ap (λ b. when b fault.Full) full)
refused s (insert d row) fault.NoRow fits h = absurd h
refused s (insert d row) fault.OutOfMemory fits h = inl refl
refused s (remove d id) fault.Schema fits h = absurd h
refused s (remove d id) fault.Full fits h = absurd h
refused s (remove d id) fault.NoRow fits h = inr (ap (λ o. when (is_none o) fault.NoRow) h)
refused s (remove d id) fault.OutOfMemory fits h = inl refl

-- ALL STEPS

pub none_refused : (n : ℕ) (s : State) (xs : List Step) → AreAccepted s xs → first_refused n s xs ≡ None
none_refused n s [] a = refl
none_refused n s (x ∷ xs) a =
    ap (λ o. option_or (option_map (λ f. (n, f)) o) (first_refused (n + 1) (stepped s x) xs)) (not_refused s x a.0)
    ∙ none_refused (n + 1) (stepped s x) xs a.1

first_is : (n k : ℕ) (s : State) (xs : List Step) (f : DeltaFault) (d : Step) → k < length xs → AreAccepted s (take k xs) → step_refusal (after s (take k xs)) (get_or xs k d) ≡ Some f
    → first_refused n s xs ≡ Some (n + k, f)
first_is n k s [] f d low a h = absurd (omega (arith, low))
first_is n zero s (x ∷ xs) f d low a h =
    let same : n ≡ n + zero = omega arith in
    ap (λ o. option_or (option_map (λ g. (n, g)) o) (first_refused (n + 1) (stepped s x) xs)) h ∙ ap (λ m. Some (m, f)) same
first_is n (suc k) s (x ∷ xs) f d low a h =
    let same : (n + 1) + k ≡ n + suc k = omega arith in
    ap (λ o. option_or (option_map (λ g. (n, g)) o) (first_refused (n + 1) (stepped s x) xs)) (not_refused s x a.0)
    ∙ first_is (n + 1) k (stepped s x) xs f d (omega (arith, low)) a.1 h
    ∙ ap (λ m. Some (m, f)) same

left_stays : (s : State) (x : Step) → (stepped s x).left.columns ≡ s.left.columns
left_stays s (insert side.Left row) = refl
left_stays s (insert side.Right row) = refl
left_stays s (remove side.Left id) = refl
left_stays s (remove side.Right id) = refl

right_stays : (s : State) (x : Step) → (stepped s x).right.columns ≡ s.right.columns
right_stays s (insert side.Left row) = refl
right_stays s (insert side.Right row) = refl
right_stays s (remove side.Left id) = refl
right_stays s (remove side.Right id) = refl

left_columns : (s : State) (xs : List Step) → (after s xs).left.columns ≡ s.left.columns
left_columns s [] = refl
left_columns s (x ∷ xs) = left_columns (stepped s x) xs ∙ left_stays s x

right_columns : (s : State) (xs : List Step) → (after s xs).right.columns ≡ s.right.columns
right_columns s [] = refl
right_columns s (x ∷ xs) = right_columns (stepped s x) xs ∙ right_stays s x

-- the step that stops a run is the first that is refused, if memory is not wanting
pub stopped_first : (s : State) (xs : List Step) (n : State) (f : StepFault) → All (Fits s.left.columns s.right.columns) xs → IsStopped s xs n f
    → (f.fault ≡ fault.OutOfMemory) ⊎ (first_refused 0 s xs ≡ Some (f.step, f.fault))
stopped_first s xs n f fits h =
    let d : Step = get_or xs f.step (remove side.Left 0) in
    let there : State = after s (take f.step xs) in
    let fit : Fits there.left.columns there.right.columns d = subst (λ (p : List Part × List Part). Fits p.0 p.1 d) (λ t. (sym (left_columns s (take f.step xs)) t, sym (right_columns s (take f.step xs)) t)) (fits f.step (remove side.Left 0) h.there) in
    found (refused there d f.fault fit (h.refused (remove side.Left 0)))
  where
    found : (f.fault ≡ fault.OutOfMemory) ⊎ (step_refusal (after s (take f.step xs)) (get_or xs f.step (remove side.Left 0)) ≡ Some f.fault)
        → (f.fault ≡ fault.OutOfMemory) ⊎ (first_refused 0 s xs ≡ Some (f.step, f.fault))
    found (inl e) = inl e
    found (inr e) = inr (first_is 0 f.step s xs f.fault (remove side.Left 0) h.there h.before.accepted e ∙ (let same : 0 + f.step ≡ f.step = omega arith in ap (λ m. Some (m, f.fault)) same))
