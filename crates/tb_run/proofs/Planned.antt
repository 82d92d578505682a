-- What is due for a request of a plan, by what the plan answers.
use Rattle.std.proofs.Common.{◌≡◌, ℕ, List, Option, Result, Ok, Err, IfOk, MatchOption, option_map, sym, ap, subst}
use mathlib.Core.Logic.{inl, inr}
use Rattle.tb_chunk.specs.Promise.Col.{Col}
use Rattle.tb_frame.specs.Promise.Table.{Table, table_of}
use Rattle.tb_plan.specs.Gives.{Gives}
use Rattle.tb_plan.specs.declared.faults.PlanFault.{PlanFault}
use Rattle.tb_plan_request.specs.Promise.Reading.{PlanRequest, plan_answer}
use Rattle.tb_run.specs.declared.status.Status.{Status}
use Rattle.tb_run.specs.declared.status.Status.TheVariants as status
use Rattle.tb_run.specs.Promise.Due.{DueOfRequest}
use Rattle.tb_run.specs.Due.{IsPlanOutcome}
use Rattle.tb_run.specs.Promise.Requests.{Refusal, by_plan, error_of, plan, refusal_of, IsAnswerText, text_of_refusal}

-- what is due where the plan answers so
DueOf : PlanRequest → Status → List ℕ → Result Table PlanFault → Type 0
DueOf q s text answer = MatchOption (option_map by_plan (error_of answer)) ((s ≡ status.Done) × IsAnswerText (plan q) text) (λ e. (s ≡ status.Refused) × (text ≡ text_of_refusal e))

plan_is_due : (q : PlanRequest) (outcome : Result (List Col) PlanFault) (s : Status) (text : List ℕ)
    → Gives table_of outcome (plan_answer q) → IsPlanOutcome outcome s text → DueOfRequest (plan q) s text
unfolding DueOf IsAnswerText refusal_of
plan_is_due q (Ok t) s text gives is = subst (DueOf q s text) (sym gives) (is.0, (table_of t, gives, is.1))
plan_is_due q (Err e) s text (inl want) is = absurd (is.0 want)
plan_is_due q (Err e) s text (inr due) is = subst (DueOf q s text) (sym due) (is.1, is.2)

pub plans_are_due : {A E : Type 0} (q : PlanRequest) (outcome : Result (List Col) PlanFault) (s : A → Status) (text : A → List ℕ) (result : Result A E)
    → Gives table_of outcome (plan_answer q) → IfOk result (λ a. IsPlanOutcome outcome (s a) (text a)) → IfOk result (λ a. DueOfRequest (plan q) (s a) (text a))
plans_are_due q outcome s text (Ok a) gives is = plan_is_due q outcome (s a) (text a) gives is
plans_are_due q outcome s text (Err e) gives is = is
