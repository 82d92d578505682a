-- The reason that a reader told is the definition's.
use Rattle.std.proofs.Common.{◌≡◌, ◌∙◌, Option, Some, None, refl, sym, ap}
use Rattle.std.specs.Prelude.{IfOk, MatchResult, Result, Ok, Err}
use Rattle.tb_value.specs.declared.error.OutOfMemory.{OutOfMemory as Wanting}
use Rattle.tb_request.specs.declared.request.Reason.{Reason}
use Rattle.tb_request.specs.declared.request.RequestFault.{RequestFault}
use Rattle.tb_request.specs.declared.request.RequestFault.TheVariants.{OutOfMemory, NoRequest}
use Rattle.tb_request.specs.Promise.Reading.{FaultIs}
use Rattle.tb_why.specs.Lent.{IsTold}
use Rattle.tb_why.specs.Requests.{refusal}

same_reason : {A Q : Type 0} (view : Q → A) (read : Result Q RequestFault) (asked : Result A Reason) (o : Option Reason) → MatchResult read (λ q. asked ≡ Ok (view q)) (λ e. FaultIs e asked) → IsTold read o → o ≡ refusal asked
same_reason view (Ok q) asked o is told = told ∙ ap refusal (sym is)
same_reason view (Err OutOfMemory) asked o is told = absurd told
same_reason view (Err (NoRequest reason)) asked o is told = told ∙ ap refusal (sym is)

pub reason_told : {A Q : Type 0} (view : Q → A) (read : Result Q RequestFault) (asked : Result A Reason) (r : Result (Option Reason) Wanting) → MatchResult read (λ q. asked ≡ Ok (view q)) (λ e. FaultIs e asked)
    → IfOk r (λ o. IsTold read o) → IfOk r (λ o. o ≡ refusal asked)
reason_told view read asked (Ok o) is told = same_reason view read asked o is told
reason_told view read asked (Err e) is told = tt
