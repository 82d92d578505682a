-- The requests of the commands: what the bytes ask, what is refused, and which texts answer.
use Rattle.std.specs.Prelude.{◌≡◌, ℕ, List, Option, Some, None, option_map, Result, Ok, Err}
use Rattle.tb_value.specs.declared.error.PolarsError.{PolarsError}
use Rattle.tb_frame.specs.Promise.Join.{IsAnswer}
use Rattle.tb_frame.specs.Promise.Refusal.{join_refusal}
use Rattle.tb_frame.specs.Promise.Table.{Table, table_of}
use Rattle.tb_unpivot.specs.Promise.Unpivot.{unpivot_refusal, unpivot_table}
use Rattle.tb_unpivot.specs.Promise.Unpivot as long
use Rattle.tb_dummies.specs.Promise.Dummies.{dummies_refusal, dummies_table}
use Rattle.tb_dummies.specs.Promise.Dummies as marked
use Rattle.tb_pivot.specs.Promise.Pivot.{pivot_table}
use Rattle.tb_pivot.specs.Promise.Refusal.{pivot_refusal}
use Rattle.tb_pivot.specs.Promise.Request as wide
use Rattle.tb_calls.specs.Promise.Asked.{long_request, dummies_request, wide_request}
use Rattle.tb_request.specs.declared.request.Reason.{Reason}
use Rattle.tb_request.specs.Promise.Reading.{JoinRequest, UnpivotRequest, DummiesRequest, PivotRequest, asked_request, join_request_of, unpivot_request_of, dummies_request_of, pivot_request_of}
use Rattle.tb_plan.specs.declared.faults.PlanFault.{PlanFault}
use Rattle.tb_plan_request.specs.Promise.Reading.{PlanRequest, plan_request_of, plan_answer}
use Rattle.tb_plan_request.specs.Promise.Texts as plan_texts
use Rattle.tb_delta_request.specs.Promise.Answers.{delta_refusal}
use Rattle.tb_delta_request.specs.Promise.Answers as kept
use Rattle.tb_delta_request.specs.Promise.Reading.{DeltaRequest, delta_request_of}
use Rattle.tb_delta_request.specs.Promise.Texts.{IsKeptText}
use Rattle.tb_delta_request.specs.Promise.Texts as kept_texts
use Rattle.tb_group.specs.Promise.Refusal.{group_refusal}
use Rattle.tb_group_request.specs.Promise.Answers.{asked_groups}
use Rattle.tb_group_request.specs.Promise.Reading.{GroupRequest, group_request_of}
use Rattle.tb_group_request.specs.Promise.Texts.{answer_text}
use Rattle.tb_json.specs.Promise.Text.{text_of}
use Rattle.tb_json.specs.Promise.Text as texts
use Rattle.tb_run.specs.Promise.Traces.{due_trace, joined_text}
use Rattle.tb_run.specs.declared.words.Command.{Command}
use Rattle.tb_run.specs.declared.words.Command.TheVariants.{Join, Unpivot, Dummies, Pivot, Plan, Delta, Group}

-- a request of each command
pub data Request : Type 0 where
  join : JoinRequest → Request
  unpivot : UnpivotRequest → Request
  dummies : DummiesRequest → Request
  pivot : PivotRequest → Request
  plan : PlanRequest → Request
  delta : DeltaRequest → Request
  group : GroupRequest → Request

-- what is read is a request of one command
abbrev pub as_request : {A : Type 0} → (A → Request) → Result A Reason → Result Request Reason
as_request f (Ok r) = Ok (f r)
as_request f (Err why) = Err why

-- the request that the bytes are, or the first reason why they are none
unfoldable pub request_of : Command → List ℕ → Result Request Reason
request_of Join bytes = as_request join (join_request_of bytes)
request_of Unpivot bytes = as_request unpivot (unpivot_request_of bytes)
request_of Dummies bytes = as_request dummies (dummies_request_of bytes)
request_of Pivot bytes = as_request pivot (pivot_request_of bytes)
request_of Plan bytes = as_request plan (plan_request_of bytes)
request_of Delta bytes = as_request delta (delta_request_of bytes)
request_of Group bytes = as_request group (group_request_of bytes)

-- what is asked of the table that is made long
abbrev pub asked_long : UnpivotRequest → long.Request
asked_long r = long_request (table_of r.table) r.on r.index r.variable_name r.value_name

-- what is asked of the table whose columns are replaced
abbrev pub asked_dummies : DummiesRequest → marked.Request
asked_dummies r = dummies_request (table_of r.table) r.columns r.separator r.drop_first

-- what is asked of the table that is made wide
abbrev pub asked_wide : PivotRequest → wide.Request
asked_wide r =
    wide_request (table_of r.table) r.on r.index r.values r.sort_columns r.agg r.separator

-- why a request is refused: the operation that it asks for refuses its tables, the plan has a fault, or the join can't be kept
pub data Refusal : Type 0 where
  by_operation : PolarsError → Refusal
  by_plan : PlanFault → Refusal
  by_delta : kept.Refusal → Refusal

-- the error of a call that gives one
abbrev pub error_of : {A E : Type 0} → Result A E → Option E
error_of (Ok a) = None
error_of (Err e) = Some e

-- why the request is refused, if it is
unfoldable pub refusal_of : Request → Option Refusal
refusal_of (join r) = option_map by_operation (join_refusal (asked_request r))
refusal_of (unpivot r) = option_map by_operation (unpivot_refusal (asked_long r))
refusal_of (dummies r) = option_map by_operation (dummies_refusal (asked_dummies r))
refusal_of (pivot r) = option_map by_operation (pivot_refusal (asked_wide r))
refusal_of (plan r) = option_map by_plan (error_of (plan_answer r))
refusal_of (delta r) = option_map by_delta (delta_refusal r)
refusal_of (group r) = option_map by_operation (group_refusal (asked_groups r))

-- the text is that of some answer to the request
unfoldable pub IsAnswerText : Request → List ℕ → Type 0
IsAnswerText (join r) text =
    (t : Table) × IsAnswer (asked_request r) t × (text ≡ joined_text r.trace t (due_trace r))
IsAnswerText (unpivot r) text = text ≡ text_of (unpivot_table (asked_long r))
IsAnswerText (dummies r) text = text ≡ text_of (dummies_table (asked_dummies r))
IsAnswerText (pivot r) text = text ≡ text_of (pivot_table (asked_wide r))
IsAnswerText (plan r) text = (t : Table) × (plan_answer r ≡ Ok t) × (text ≡ text_of t)
IsAnswerText (delta r) text = IsKeptText r text
IsAnswerText (group r) text = text ≡ answer_text r

unfoldable pub text_of_refusal : Refusal → List ℕ
text_of_refusal (by_operation error) = texts.text_of_refusal error
text_of_refusal (by_plan fault) = plan_texts.text_of_fault fault
text_of_refusal (by_delta refusal) = kept_texts.text_of_refusal refusal
