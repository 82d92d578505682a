-- What is due for a request to keep a join, by what came of keeping it.
use Rattle.std.proofs.Common.{◌≡◌, ◌∙◌, ◌⊎◌, ℕ, List, Option, Some, None, Result, Ok, Err, IfOk, MatchOption, option_map, sym, ap, subst}
use mathlib.Core.Logic.{inl, inr}
use Rattle.tb_frame.specs.Promise.Table.{Table}
use Rattle.tb_delta_request.specs.Lent.{refusal_view}
use Rattle.tb_delta_request.specs.declared.keeping.KeptFault.{KeptFault}
use Rattle.tb_delta_request.specs.declared.keeping.KeptFault.TheVariants.{OutOfMemory}
use Rattle.tb_delta_request.specs.Promise.Answers.{IsEndOf, delta_refusal, told_by}
use Rattle.tb_delta_request.specs.Promise.Answers as kept
use Rattle.tb_delta_request.specs.Promise.Reading.{DeltaRequest}
use Rattle.tb_delta_request.specs.Promise.Texts.{kept_text}
use Rattle.tb_run.specs.declared.status.Status.{Status}
use Rattle.tb_run.specs.declared.status.Status.TheVariants as status
use Rattle.tb_run.specs.Promise.Due.{DueOfRequest}
use Rattle.tb_run.specs.Due.{IsKeptRefusal}
use Rattle.tb_run.specs.Promise.Requests.{by_delta, delta, refusal_of, IsAnswerText, text_of_refusal}

-- what is due where this is the refusal, or there is none
DueOf : DeltaRequest → Status → List ℕ → Option kept.Refusal → Type 0
DueOf q s text cause = MatchOption (option_map by_delta cause) ((s ≡ status.Done) × IsAnswerText (delta q) text) (λ e. (s ≡ status.Refused) × (text ≡ text_of_refusal e))

done_is_due : (q : DeltaRequest) (t : Table) (lists : List (List ℕ)) (s : Status) (text : List ℕ)
    → delta_refusal q ≡ None → IsEndOf q t → lists ≡ told_by q → (s ≡ status.Done) × (text ≡ kept_text t lists) → DueOfRequest (delta q) s text
unfolding DueOf IsAnswerText refusal_of
done_is_due q t lists s text none end told is = subst (DueOf q s text) (sym none) (is.0, (t, end, is.1 ∙ ap (kept_text t) told))

pub done_are_due : {A E : Type 0} (q : DeltaRequest) (t : Table) (lists : List (List ℕ)) (s : A → Status) (text : A → List ℕ) (result : Result A E)
    → delta_refusal q ≡ None → IsEndOf q t × (lists ≡ told_by q) → IfOk result (λ a. (s a ≡ status.Done) × (text a ≡ kept_text t lists)) → IfOk result (λ a. DueOfRequest (delta q) (s a) (text a))
done_are_due q t lists s text (Ok a) none end is = done_is_due q t lists (s a) (text a) none end.0 end.1 is
done_are_due q t lists s text (Err e) none end is = is

no_refusal : {A : Type 0} (fault : KeptFault) (r : kept.Refusal) → fault ≡ OutOfMemory → refusal_view fault ≡ Some r → A
no_refusal fault r want is = absurd (cc)

refused_is_due : (q : DeltaRequest) (fault : KeptFault) (s : Status) (text : List ℕ)
    → (fault ≡ OutOfMemory) ⊎ (delta_refusal q ≡ refusal_view fault) → IsKeptRefusal fault s text → DueOfRequest (delta q) s text
unfolding DueOf refusal_of text_of_refusal
refused_is_due q fault s text (inl want) is = no_refusal fault is.1.0 want is.1.1
refused_is_due q fault s text (inr due) is = subst (DueOf q s text) (sym (due ∙ is.1.1)) (is.0, is.1.2)

pub refused_are_due : {A E : Type 0} (q : DeltaRequest) (fault : KeptFault) (s : A → Status) (text : A → List ℕ) (result : Result A E)
    → (fault ≡ OutOfMemory) ⊎ (delta_refusal q ≡ refusal_view fault) → IfOk result (λ a. IsKeptRefusal fault (s a) (text a)) → IfOk result (λ a. DueOfRequest (delta q) (s a) (text a))
refused_are_due q fault s text (Ok a) due is = refused_is_due q fault (s a) (text a) due is
refused_are_due q fault s text (Err e) due is = is
