-- The lines of steps, one at a time.
use Rattle.std.proofs.Common.{◌≡◌, ◌∙◌, ℕ, ◌+◌, List, [], ◌∷◌, ◌++◌, length, Result, Ok, ap}
use Rattle.tb_value.specs.Promise.Kind.{Part}
use Rattle.tb_delta.specs.Promise.Steps.{Step}
use Rattle.tb_front.specs.declared.fault.FrontFault.{FrontFault}
use Rattle.tb_front.specs.Promise.Due.{each_from}
use Rattle.tb_front.proofs.Dues.{IsDue, due_as}
use Rattle.tb_front.proofs.Each.{behind, goes, stopped, ends, none_left}
use Rattle.tb_delta_front.specs.Promise.Steps.{lines_of, step_of, steps_in}

module _ (left right : List Part) (text : List ℕ) where
  abbrev f : ℕ → List ℕ → Result Step FrontFault
  f = step_of left right

  -- the lines that are left decide
  abbrev pub IsRead : List Step → ℕ → List ℕ → Type 0
  IsRead xs n rest = steps_in left right text ≡ behind xs (each_from f n (lines_of rest))

  -- the next line comes first
  next : (xs : List Step) (n : ℕ) (rest line more : List ℕ) → lines_of rest ≡ line ∷ lines_of more → IsRead xs n rest → steps_in left right text ≡ behind xs (each_from f n (line ∷ lines_of more))
  next xs n rest line more cut h = h ∙ ap (λ (ls : List (List ℕ)). behind xs (each_from f n ls)) cut

  pub one_step : (xs : List Step) (n : ℕ) (rest line more : List ℕ) (x : Step) → lines_of rest ≡ line ∷ lines_of more → IsRead xs n rest → step_of left right n line ≡ Ok x → IsRead (xs ++ x ∷ []) (n + 1) more
  one_step xs n rest line more x cut h here = next xs n rest line more cut h ∙ goes f xs n line (lines_of more) x here

  pub no_more : (xs : List Step) (n : ℕ) (rest line more : List ℕ) (e : FrontFault) → lines_of rest ≡ line ∷ lines_of more → IsRead xs n rest → IsDue e (step_of left right n line) → IsDue e (steps_in left right text)
  no_more xs n rest line more e cut h here =
      due_as (steps_in left right text) (behind xs (each_from f n (line ∷ lines_of more))) e (next xs n rest line more cut h)
      (stopped f xs n line (lines_of more) e here)

  pub all_steps : (xs : List Step) (n : ℕ) (rest : List ℕ) → length rest ≡ 0 → IsRead xs n rest → steps_in left right text ≡ Ok xs
  all_steps xs n rest none h = h ∙ ap (λ (r : List ℕ). behind xs (each_from f n (lines_of r))) (none_left rest none) ∙ ends f xs n
