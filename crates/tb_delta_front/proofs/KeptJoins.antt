-- A join that is kept, from its tables to its end.
use Rattle.std.proofs.Common.{◌≡◌, Bool, List, Option, None, Result, Ok, sym, subst}
use Rattle.tb_delta.specs.Promise.State.{State}
use Rattle.tb_delta.specs.Promise.Steps.{Step}
use Rattle.tb_delta_front.specs.declared.deltas.KeptRows.{KeptRows}
use Rattle.tb_front.specs.declared.fault.FrontFault.{FrontFault}
use Rattle.tb_delta_front.specs.Keeping.{IsBehind, IsKept}
use Rattle.tb_delta_front.specs.Promise.Deltas.{steps_done, steps_fault}
use Rattle.tb_front.specs.Promise.Due.{◌>>=◌, unless}
use Rattle.tb_front.proofs.Dues.{passes_by}

module _ (keeps : Bool) where
  pub kept_as : (r s : Result (State × List Step) FrontFault) (k : Result KeptRows FrontFault) → r ≡ s → IsKept keeps s k → IsKept keeps r k
  kept_as r s k same is = subst (λ (due : Result (State × List Step) FrontFault). IsKept keeps due k) (sym same) is

  pub kept_on : (cause : Option FrontFault) (r : Result (State × List Step) FrontFault) (k : Result KeptRows FrontFault) → cause ≡ None → IsKept keeps r k → IsKept keeps (unless cause >>= λ _. r) k
  kept_on cause r k none is = kept_as (unless cause >>= λ _. r) r k (passes_by cause r none) is

  pub all_kept : (s : State) (xs : List Step) (k : KeptRows) → steps_fault 1 s xs ≡ None → IsBehind keeps (s, xs) k → (a : State × List Step) × (steps_done s xs ≡ Ok a) × IsBehind keeps a k
  all_kept s xs k none behind = ((s, xs), passes_by (steps_fault 1 s xs) (Ok (s, xs)) none, behind)
