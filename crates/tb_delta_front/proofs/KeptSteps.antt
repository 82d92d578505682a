-- A join that is kept through steps, a step at a time.
use Rattle.std.proofs.Common.{◌≡◌, ◌∙◌, ℕ, ◌+◌, ◌<◌, ◌≤◌, nat_le, Bool, true, false, List, [], ◌∷◌, ◌++◌, map, Some, None, option_map, Ok, refl, sym, ap, arith, subst, append-nil, append_assoc}
use Rattle.std.specs.Prelude.{All, IsSome, Option, is_none}
use mathlib.Core.Logic.{◌⊎◌, inl, inr}
use Rattle.std.proofs.lemmas.List.Elements.{All-head, All-tail}
use Rattle.tb_value.specs.Promise.Kind.{Part}
use Rattle.tb_value.specs.Promise.Datum.{Datum}
use Rattle.tb_value.specs.Promise.Refusals.{first_cause, when}
use Rattle.tb_value.specs.Promise.Typed.{FitsFields}
use Rattle.tb_value.specs.declared.error.Side.{Side}
use Rattle.tb_value.specs.declared.error.Side.TheVariants as side
use Rattle.tb_value.specs.declared.limits.TheConstants.{MAX_ROWS}
use Rattle.tb_delta.specs.Promise.State.{State, of_side, row_of}
use Rattle.tb_delta.specs.Promise.Steps.{IsAccepted, Step, after, insert, remove, stepped, told}
use Rattle.tb_delta_front.specs.Promise.Steps.{Fits}
use Rattle.tb_front.specs.declared.fault.FrontFault.{FrontFault}
use Rattle.tb_delta.specs.Running.{IsRefused, told_where}
use Rattle.tb_delta.specs.declared.fault.DeltaFault.{DeltaFault}
use Rattle.tb_delta.specs.declared.fault.DeltaFault.TheVariants as delta
use Rattle.tb_front.specs.declared.fault.FrontFault.TheVariants as fault
use Rattle.tb_front.specs.declared.fault.FrontFault.TheVariants.{OutOfMemory}
use Rattle.tb_front.specs.declared.fault.StepCause.TheVariants as cause
use Rattle.tb_delta_front.specs.Keeping.{fault_at, step_row, IsLeft, IsStepped}
use Rattle.tb_delta_front.specs.declared.deltas.StepRow.{StepRow}
use Rattle.tb_delta_front.specs.Promise.Deltas.{Change, changed, changes, pair_with, step_fault, steps_fault}
use Rattle.tb_front.proofs.Steps.{first_of_one}

-- no step changes the columns
left_stays : (s : State) (x : Step) → (stepped s x).left.columns ≡ s.left.columns
left_stays s (insert side.Left row) = refl
left_stays s (insert side.Right row) = refl
left_stays s (remove side.Left id) = refl
left_stays s (remove side.Right id) = refl

right_stays : (s : State) (x : Step) → (stepped s x).right.columns ≡ s.right.columns
right_stays s (insert side.Left row) = refl
right_stays s (insert side.Right row) = refl
right_stays s (remove side.Left id) = refl
right_stays s (remove side.Right id) = refl

-- ---- one step

not_full : (k n : ℕ) → k < n → nat_le n k ≡ false
not_full k n low = grind (arith, low)

is_full : (k n : ℕ) → n ≤ k → nat_le n k ≡ true
is_full k n high = grind (arith, high)

-- a step that is accepted has no fault
there_is : (n : ℕ) (d : Side) (id : ℕ) (o : Option (List Datum)) → IsSome o → option_map (λ c. fault.Step n c) (when (is_none o) (cause.NoRow d id)) ≡ None
there_is n d id None h = absurd (cc)
there_is n d id (Some v) h = refl

no_fault : (n : ℕ) (s : State) (x : Step) → IsAccepted s x → step_fault n s x ≡ None
no_fault n s (insert d row) may = ap (λ b. option_map (λ c. fault.Step n c) (when b cause.Full)) (not_full (of_side d s).ever MAX_ROWS may.1)
no_fault n s (remove d id) may = there_is n d id (row_of (of_side d s) id) may

-- the pairs of its row with its partners are what it changes
pairs_are : (n : ℕ) (s : State) (x : Step) → map (pair_with n (step_row s x).comes (step_row s x).side (step_row s x).id) (told s x) ≡ changed n s x
pairs_are n s (insert d row) = refl
pairs_are n s (remove d id) = refl

pub step_done : (keeps : Bool) (n : ℕ) (s t : State) (x : Step) (row : StepRow) (others : List ℕ) (old new : List Change) → row ≡ step_row s x → IsAccepted s x → t ≡ stepped s x
    → others ≡ told_where keeps s x → new ≡ old ++ map (pair_with n row.comes row.side row.id) others → IsStepped keeps n s x t old new (Ok tt)
step_done keeps n s t x row others old new is may made tells pairs = (
  no_fault n s x may,
  made,
  λ k. pairs
      ∙ (λ i. old ++ map (pair_with n (is i).comes (is i).side (is i).id) (tells i))
      ∙ ap (λ (b : Bool). old ++ map (pair_with n (step_row s x).comes (step_row s x).side (step_row s x).id) (told_where b s x)) k
      ∙ ap (λ (l : List Change). old ++ l) (pairs_are n s x),
)

-- why a step isn't done
fitting : (s : State) (d : Side) (row : List Datum) → Fits s.left.columns s.right.columns (insert d row) → FitsFields (of_side d s).columns row
fitting s side.Left row fits = fits
fitting s side.Right row fits = fits

due_fault : (n : ℕ) (s t : State) (x : Step) (f : DeltaFault) → Fits s.left.columns s.right.columns x → IsRefused s x t f
    → (fault_at n (step_row s x) f ≡ OutOfMemory) ⊎ (step_fault n s x ≡ Some (fault_at n (step_row s x) f))
due_fault n s t (insert d row) delta.Schema fits is = absurd (is.0 (fitting s d row fits))
due_fault n s t (insert d row) delta.Full fits is = inr (ap (λ b. option_map (λ c. fault.Step n c) (when b cause.Full)) (is_full (of_side d s).ever MAX_ROWS is.0.1))
due_fault n s t (insert d row) delta.NoRow fits is = absurd is.0
due_fault n s t (insert d row) delta.OutOfMemory fits is = inl refl
due_fault n s t (remove d id) delta.Schema fits is = absurd is.0
due_fault n s t (remove d id) delta.Full fits is = absurd is.0
due_fault n s t (remove d id) delta.NoRow fits is = inr (ap (λ o. option_map (λ c. fault.Step n c) (when (is_none o) (cause.NoRow d id))) is.0)
due_fault n s t (remove d id) delta.OutOfMemory fits is = inl refl

pub step_refused : (n : ℕ) (s t : State) (x : Step) (row : StepRow) (f : DeltaFault) (e : FrontFault) → row ≡ step_row s x → e ≡ fault_at n row f
    → Fits s.left.columns s.right.columns x → IsRefused s x t f → (e ≡ OutOfMemory) ⊎ (step_fault n s x ≡ Some e)
step_refused n s t x row f e is as_told fits why =
    subst (λ (g : FrontFault). (g ≡ OutOfMemory) ⊎ (step_fault n s x ≡ Some g)) (sym (as_told ∙ ap (λ (r : StepRow). fault_at n r f) is)) (due_fault n s t x f fits why)

-- ---- all steps

module _ (keeps : Bool) (first : State) (all : List Step) (old : List Change) where
  pub all_left : All (Fits first.left.columns first.right.columns) all → IsLeft keeps first all old 1 first all old
  all_left fit = record { fault = refl; state = refl; told = λ k. refl; fit = fit }

  pub one_done : (n : ℕ) (s t : State) (x : Step) (rest : List Step) (now more : List Change)
      → IsLeft keeps first all old n s (x ∷ rest) now → step_fault n s x ≡ None → t ≡ stepped s x → (keeps ≡ true → more ≡ now ++ changed n s x)
      → IsLeft keeps first all old (n + 1) t rest more
  one_done n s t x rest now more h none is pairs = record {
    fault = h.fault ∙ ap (λ f. first_cause (f ∷ steps_fault (n + 1) (stepped s x) rest ∷ [])) none ∙ first_of_one (steps_fault (n + 1) (stepped s x) rest) ∙ ap (λ (u : State). steps_fault (n + 1) u rest) (sym is);
    state = h.state ∙ ap (λ (u : State). after u rest) (sym is);
    told = λ k.
        ap (λ (l : List Change). l ++ changes (n + 1) t rest) (pairs k) ∙ append_assoc now (changed n s x) (changes (n + 1) t rest)
        ∙ ap (λ (u : State). now ++ (changed n s x ++ changes (n + 1) u rest)) is ∙ h.told k;
    fit = along is (subst (λ (p : List Part × List Part). All (Fits p.0 p.1) rest) (λ i. (sym (left_stays s x) i, sym (right_stays s x) i)) (All-tail (Fits s.left.columns s.right.columns) x rest h.fit));
  }
    where
      along : t ≡ stepped s x → All (Fits (stepped s x).left.columns (stepped s x).right.columns) rest → All (Fits t.left.columns t.right.columns) rest
      along e = subst (λ (u : State). All (Fits u.left.columns u.right.columns) rest) (sym e)

  pub one_fits : (n : ℕ) (s : State) (x : Step) (rest : List Step) (now : List Change) → IsLeft keeps first all old n s (x ∷ rest) now → Fits s.left.columns s.right.columns x
  one_fits n s x rest now h = All-head (Fits s.left.columns s.right.columns) x rest h.fit

  pub one_refused : (n : ℕ) (s : State) (x : Step) (rest : List Step) (now : List Change) (e : FrontFault) → IsLeft keeps first all old n s (x ∷ rest) now
      → (e ≡ OutOfMemory) ⊎ (step_fault n s x ≡ Some e) → (e ≡ OutOfMemory) ⊎ (steps_fault 1 first all ≡ Some e)
  one_refused n s x rest now e h (inl want) = inl want
  one_refused n s x rest now e h (inr is) = inr (h.fault ∙ ap (λ f. first_cause (f ∷ steps_fault (n + 1) (stepped s x) rest ∷ [])) is)

  pub all_done : (n : ℕ) (s : State) (now : List Change) → IsLeft keeps first all old n s [] now → (steps_fault 1 first all ≡ None) × (s ≡ after first all) × (keeps ≡ true → now ≡ old ++ changes 1 first all)
  all_done n s now h = (h.fault, sym h.state, λ k. sym (append-nil now) ∙ h.told k)
