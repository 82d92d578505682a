-- Groupings that would compare decimal numbers.
use Rattle.std.proofs.Common.{◌≡◌, List, [], ◌∷◌, Option, Some, subst}
use mathlib.Core.Logic.{◌⊎◌}
use Rattle.tb_value.specs.Promise.Refusals.{first_cause}
use Rattle.tb_frame.specs.Promise.Table.{Table}
use Rattle.tb_csv.specs.declared.options.TypeOf.{TypeOf}
use Rattle.tb_front.specs.declared.fault.FrontFault.{FrontFault}
use Rattle.tb_front.specs.declared.fault.FrontFault.TheVariants.{OutOfMemory}
use Rattle.tb_front.proofs.Steps.{refused}
use Rattle.tb_group_front.specs.declared.call.GroupCall.{GroupCall}
use Rattle.tb_group_front.specs.Promise.Grouped.{decimal_faults}

pub decimals_refused : (given types : List TypeOf) (c : GroupCall) (t : Table) (fs : List (Option FrontFault)) (e : FrontFault) → given ≡ types
    → (e ≡ OutOfMemory) ⊎ (first_cause (decimal_faults given c t) ≡ Some e) → (e ≡ OutOfMemory) ⊎ (first_cause (first_cause (decimal_faults types c t) ∷ fs) ≡ Some e)
decimals_refused given types c t fs e same settles =
    refused e (first_cause (decimal_faults types c t)) fs (subst (λ (ts : List TypeOf). (e ≡ OutOfMemory) ⊎ (first_cause (decimal_faults ts c t) ≡ Some e)) same settles)
