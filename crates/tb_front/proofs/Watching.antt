-- The table of a join of which a watch was told.
use Rattle.std.proofs.Common.{◌≡◌, Option, Result, Ok, Err, IfOk, MatchResult, List, subst, sym}
use Rattle.tb_value.specs.Refusals as causes
use Rattle.tb_value.specs.declared.error.PolarsError.{PolarsError}

module _ {A B : Type 0} (outcome : Result (A × B) PolarsError) (watched : Result A PolarsError)
    (same : MatchResult outcome (λ r. watched ≡ Ok r.0) (λ e. watched ≡ Err e)) where
  pub watched_settles : (cause : Option PolarsError) → causes.Settles outcome cause → causes.Settles watched cause
  watched_settles cause settles = elim outcome as (λ o. MatchResult o (λ r. watched ≡ Ok r.0) (λ e. watched ≡ Err e) → causes.Settles o cause → causes.Settles watched cause) [
    | Ok r ↦ λ is s. subst (λ w. causes.Settles w cause) (sym is) s
    | Err e ↦ λ is s. subst (λ w. causes.Settles w cause) (sym is) s
  ] same settles

  pub watched_answer : (P : A → Type 0) → IfOk outcome (λ r. P r.0) → IfOk watched P
  watched_answer P answer = elim outcome as (λ o. MatchResult o (λ r. watched ≡ Ok r.0) (λ e. watched ≡ Err e) → IfOk o (λ r. P r.0) → IfOk watched P) [
    | Ok r ↦ λ is s. subst (λ w. IfOk w P) (sym is) s
    | Err e ↦ λ is s. subst (λ w. IfOk w P) (sym is) tt
  ] same answer
