-- The headline of the program, written out for each command.
use Rattle.std.specs.Prelude.{◌≡◌, ℕ, ◌≤◌, List, length, Option, Ok, None}
use Rattle.std.specs.Io.KnownBytes.{Consumes, Appends}
use Rattle.tb_value.specs.declared.limits.TheConstants.{MAX_INPUT}
use Rattle.tb_frame.specs.Promise.Join.{IsAnswer}
use Rattle.tb_frame.specs.Promise.Refusal.{join_valid}
use Rattle.tb_frame.specs.Promise.Table.{Table}
use Rattle.tb_unpivot.specs.Promise.Unpivot.{unpivot_refusal, unpivot_table}
use Rattle.tb_dummies.specs.Promise.Dummies.{dummies_refusal, dummies_table}
use Rattle.tb_pivot.specs.Promise.Pivot.{pivot_table}
use Rattle.tb_pivot.specs.Promise.Refusal.{pivot_refusal}
use Rattle.tb_request.specs.Promise.Reading.{JoinRequest, UnpivotRequest, DummiesRequest, PivotRequest, asked_request, join_request_of, unpivot_request_of, dummies_request_of, pivot_request_of}
use Rattle.tb_plan_request.specs.Promise.Reading.{PlanRequest, plan_request_of, plan_answer}
use Rattle.tb_delta_request.specs.Promise.Answers.{IsEndOf, delta_refusal, told_by}
use Rattle.tb_delta_request.specs.Promise.Reading.{DeltaRequest, delta_request_of}
use Rattle.tb_delta_request.specs.Promise.Texts.{kept_text}
use Rattle.tb_group.specs.Promise.Group.{group_table}
use Rattle.tb_group.specs.Promise.Refusal.{group_refusal}
use Rattle.tb_group_request.specs.Promise.Answers.{asked_groups, trace_told}
use Rattle.tb_group_request.specs.Promise.Reading.{GroupRequest, group_request_of}
use Rattle.tb_group_request.specs.Promise.Texts.{grouped_text}
use Rattle.tb_json.specs.Promise.Text.{text_of}
use Rattle.tb_run.specs.Promise.Due.{Tells}
use Rattle.tb_run.specs.Promise.Requests.{asked_dummies, asked_long, asked_wide}
use Rattle.tb_run.specs.Promise.Traces.{due_trace, joined_text}

-- The bytes, read to their end, are a request to join that nothing refuses, and the text of a table that answers it was written,
-- with the trace of the join where the request asks for it.
pub record JoinDone (left left' written written' : Option (List ℕ)) : Type 0 where
  pub bytes : List ℕ
  pub told : Tells left bytes
  pub short : length bytes ≤ MAX_INPUT
  pub read : Consumes left left' bytes
  pub request : JoinRequest
  pub is_request : join_request_of bytes ≡ Ok request
  pub valid : join_valid (asked_request request)
  pub table : Table
  pub is_answer : IsAnswer (asked_request request) table
  pub wrote : Appends written written' (joined_text request.trace table (due_trace request))

-- The same for a table that is made long: the text of the long table was written.
pub record UnpivotDone (left left' written written' : Option (List ℕ)) : Type 0 where
  pub bytes : List ℕ
  pub told : Tells left bytes
  pub short : length bytes ≤ MAX_INPUT
  pub read : Consumes left left' bytes
  pub request : UnpivotRequest
  pub is_request : unpivot_request_of bytes ≡ Ok request
  pub valid : unpivot_refusal (asked_long request) ≡ None
  pub wrote : Appends written written' (text_of (unpivot_table (asked_long request)))

-- The same for a table whose columns are replaced by dummies: the text of the table with the dummies was written.
pub record DummiesDone (left left' written written' : Option (List ℕ)) : Type 0 where
  pub bytes : List ℕ
  pub told : Tells left bytes
  pub short : length bytes ≤ MAX_INPUT
  pub read : Consumes left left' bytes
  pub request : DummiesRequest
  pub is_request : dummies_request_of bytes ≡ Ok request
  pub valid : dummies_refusal (asked_dummies request) ≡ None
  pub wrote : Appends written written' (text_of (dummies_table (asked_dummies request)))

-- The same for a table that is made wide: the text of the wide table was written.
pub record PivotDone (left left' written written' : Option (List ℕ)) : Type 0 where
  pub bytes : List ℕ
  pub told : Tells left bytes
  pub short : length bytes ≤ MAX_INPUT
  pub read : Consumes left left' bytes
  pub request : PivotRequest
  pub is_request : pivot_request_of bytes ≡ Ok request
  pub valid : pivot_refusal (asked_wide request) ≡ None
  pub wrote : Appends written written' (text_of (pivot_table (asked_wide request)))

-- The same for a plan: the text of the table that it answers was written.
pub record PlanDone (left left' written written' : Option (List ℕ)) : Type 0 where
  pub bytes : List ℕ
  pub told : Tells left bytes
  pub short : length bytes ≤ MAX_INPUT
  pub read : Consumes left left' bytes
  pub request : PlanRequest
  pub is_request : plan_request_of bytes ≡ Ok request
  pub table : Table
  pub is_answer : plan_answer request ≡ Ok table
  pub wrote : Appends written written' (text_of table)

-- The same for a join that is kept: the text of the join behind all steps, with what each step told, was written.
pub record DeltaDone (left left' written written' : Option (List ℕ)) : Type 0 where
  pub bytes : List ℕ
  pub told : Tells left bytes
  pub short : length bytes ≤ MAX_INPUT
  pub read : Consumes left left' bytes
  pub request : DeltaRequest
  pub is_request : delta_request_of bytes ≡ Ok request
  pub valid : delta_refusal request ≡ None
  pub table : Table
  pub is_answer : IsEndOf request table
  pub wrote : Appends written written' (kept_text table (told_by request))

-- The same for a table that is grouped: the text of the grouped table was written, with its trace where that
-- is asked.
pub record GroupDone (left left' written written' : Option (List ℕ)) : Type 0 where
  pub bytes : List ℕ
  pub told : Tells left bytes
  pub short : length bytes ≤ MAX_INPUT
  pub read : Consumes left left' bytes
  pub request : GroupRequest
  pub is_request : group_request_of bytes ≡ Ok request
  pub valid : group_refusal (asked_groups request) ≡ None
  pub wrote : Appends written written'
      (grouped_text (group_table (asked_groups request)) (trace_told request))
