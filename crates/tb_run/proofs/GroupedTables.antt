-- What is due for a request to group a table, by what came of it.
use Rattle.std.proofs.Common.{◌≡◌, ◌∙◌, ℕ, List, Option, Result, Ok, Err, IfOk, MatchOption, option_map, sym, ap, subst}
use mathlib.Core.Logic.{inl, inr}
use Rattle.tb_value.specs.Refusals.{Settles}
use Rattle.tb_value.specs.declared.error.PolarsError.{PolarsError}
use Rattle.tb_frame.specs.Promise.Table.{table_of}
use Rattle.tb_group.specs.Promise.Group.{group_table}
use Rattle.tb_group.specs.Promise.Refusal.{group_refusal}
use Rattle.tb_group_request.specs.Promise.Answers.{asked_groups, trace_told}
use Rattle.tb_group_request.specs.Promise.Reading.{GroupRequest}
use Rattle.tb_group_request.specs.Promise.Texts.{grouped_text}
use Rattle.tb_group_request.specs.declared.grouping.GroupedTable.{GroupedTable}
use Rattle.tb_run.specs.declared.status.Status.{Status}
use Rattle.tb_run.specs.declared.status.Status.TheVariants as status
use Rattle.tb_run.specs.Promise.Due.{DueOfRequest}
use Rattle.tb_run.specs.Due.{IsGroupOutcome}
use Rattle.tb_run.specs.Promise.Requests.{by_operation, group, refusal_of, IsAnswerText, text_of_refusal}

-- what is due where this is the refusal, or there is none
DueOf : GroupRequest → Status → List ℕ → Option PolarsError → Type 0
DueOf q s text cause = MatchOption (option_map by_operation cause) ((s ≡ status.Done) × IsAnswerText (group q) text) (λ e. (s ≡ status.Refused) × (text ≡ text_of_refusal e))

-- the table is the one that is asked for, with its trace where that is asked
abbrev IsGroupedFor : GroupRequest → GroupedTable → Type 0
IsGroupedFor q made = (table_of made.table ≡ group_table (asked_groups q)) × (made.trace ≡ trace_told q)

group_is_due : (q : GroupRequest) (outcome : Result GroupedTable PolarsError) (s : Status) (text : List ℕ)
    → Settles outcome (group_refusal (asked_groups q)) → IfOk outcome (IsGroupedFor q) → IsGroupOutcome outcome s text → DueOfRequest (group q) s text
unfolding DueOf IsAnswerText refusal_of
group_is_due q (Ok made) s text settles answer is = subst (DueOf q s text) (sym settles) (is.0, is.1 ∙ (λ t. grouped_text (answer.0 t) (answer.1 t)))
group_is_due q (Err e) s text (inl want) answer is = absurd (is.0 want)
group_is_due q (Err e) s text (inr cause) answer is = subst (DueOf q s text) (sym cause) (is.1, is.2)

pub groups_are_due : {A E : Type 0} (q : GroupRequest) (outcome : Result GroupedTable PolarsError) (s : A → Status) (text : A → List ℕ) (result : Result A E)
    → Settles outcome (group_refusal (asked_groups q)) → IfOk outcome (IsGroupedFor q) → IfOk result (λ a. IsGroupOutcome outcome (s a) (text a)) → IfOk result (λ a. DueOfRequest (group q) (s a) (text a))
groups_are_due q outcome s text (Ok a) settles answer is = group_is_due q outcome (s a) (text a) settles answer is
groups_are_due q outcome s text (Err e) settles answer is = is
