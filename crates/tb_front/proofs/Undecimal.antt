-- Pivots that compare no decimal numbers, and those that would.
use Rattle.std.proofs.Common.{◌≡◌, Bool, false, List, [], ◌∷◌, Option, Some, None, Result, refl, subst}
use mathlib.Core.Logic.{◌⊎◌}
use Rattle.tb_value.specs.Promise.Names.{Name}
use Rattle.tb_value.specs.Promise.Refusals.{first_cause}
use Rattle.tb_frame.specs.Promise.Table.{Table}
use Rattle.tb_calls.specs.declared.arguments.PivotCall.{PivotCall}
use Rattle.tb_csv.specs.declared.options.TypeOf.{TypeOf}
use Rattle.tb_front.specs.declared.fault.Comparison.{Comparison}
use Rattle.tb_front.specs.declared.fault.FrontFault.{FrontFault}
use Rattle.tb_front.specs.Promise.Asked.{decimal_faults, first_decimals}
use Rattle.tb_front.specs.Promise.Faults.{Settles}
use Rattle.tb_front.specs.declared.fault.FrontFault.TheVariants.{OutOfMemory}
use Rattle.tb_front.proofs.Steps.{refused}

-- no column is used so
pub first_none : (types : List TypeOf) (comparison : Comparison) (used : Name → Bool) (t : Table) → ((n : Name) → used n ≡ false) → first_decimals types comparison used t ≡ None
first_none types comparison used [] never = refl
first_none types comparison used (c ∷ cs) never = rw (never c.name) (first_none types comparison used cs never)

pub decimals_refused : (given types : List TypeOf) (c : PivotCall) (t : Table) (fs : List (Option FrontFault)) (e : FrontFault) → given ≡ types
    → (e ≡ OutOfMemory) ⊎ (first_cause (decimal_faults given c t) ≡ Some e) → (e ≡ OutOfMemory) ⊎ (first_cause (first_cause (decimal_faults types c t) ∷ fs) ≡ Some e)
decimals_refused given types c t fs e same settles =
    refused e (first_cause (decimal_faults types c t)) fs (subst (λ (ts : List TypeOf). (e ≡ OutOfMemory) ⊎ (first_cause (decimal_faults ts c t) ≡ Some e)) same settles)

-- names that are used alike
pub alike_settles : {T : Type 0} (types : List TypeOf) (comparison : Comparison) (p q : Name → Bool) (t : Table) (result : Result T FrontFault) → ((n : Name) → p n ≡ q n)
    → Settles result (first_decimals types comparison p t) → Settles result (first_decimals types comparison q t)
alike_settles types comparison p q t result same settles = subst (λ f. Settles result f) (λ i. first_decimals types comparison (λ n. same n i) t) settles
