-- What is written of what an operation gives.
use Rattle.std.specs.Prelude.{◌≡◌, ◌≢◌, ℕ, Bool, List, Result, Ok, Err}
use Rattle.tb_value.specs.declared.error.PolarsError.{PolarsError}
use Rattle.tb_value.specs.declared.error.PolarsError.TheVariants.{OutOfMemory}
use Rattle.tb_chunk.specs.Promise.Col.{Col}
use Rattle.tb_frame.specs.Promise.Table.{table_of}
use Rattle.tb_json.specs.Promise.Text.{text_of, text_of_refusal}
use Rattle.tb_request.specs.declared.request.Reason.{Reason}
use Rattle.tb_request.specs.Promise.Reasons.{bad_request_text}
use Rattle.tb_request.specs.Promise.Reading.{JoinRequest, UnpivotRequest, DummiesRequest, PivotRequest}
use Rattle.tb_answer.specs.declared.status.Status.{Status}
use Rattle.tb_answer.specs.declared.status.Status.TheVariants as status
use Rattle.tb_answer.specs.Promise.Due.{DueOfRequest, IsDummiesText, IsJoinText, IsLongText, IsWideText, joined_text, refusal_of_dummies, refusal_of_join, refusal_of_pivot, refusal_of_unpivot}

-- a refusal that is not want of memory, with its text
abbrev pub IsRefusal : PolarsError → Status → List ℕ → Type 0
IsRefusal e s text = (e ≢ OutOfMemory) × (s ≡ status.Refused) × (text ≡ text_of_refusal e)

-- a table with its text, or the refusal
abbrev pub IsOutcome : Result (List Col) PolarsError → Status → List ℕ → Type 0
IsOutcome (Ok table) s text = (s ≡ status.Done) × (text ≡ text_of (table_of table))
IsOutcome (Err e) s text = IsRefusal e s text

-- the same of a join, whose trace may be asked
abbrev pub IsJoinOutcome : Bool → Result (List Col) PolarsError → Status → List ℕ → Type 0
IsJoinOutcome asks (Ok table) s text =
    (s ≡ status.Done) × (text ≡ joined_text asks (table_of table))
IsJoinOutcome asks (Err e) s text = IsRefusal e s text

-- a reason why bytes are no request
abbrev pub IsNoRequest : Reason → Status → List ℕ → Type 0
IsNoRequest reason s text = (s ≡ status.BadRequest) × (text ≡ bad_request_text reason)

-- what is due for requests
abbrev pub DueOfJoinRequest : JoinRequest → Status → List ℕ → Type 0
DueOfJoinRequest r = DueOfRequest (refusal_of_join r) (IsJoinText r)

abbrev pub DueOfUnpivotRequest : UnpivotRequest → Status → List ℕ → Type 0
DueOfUnpivotRequest r = DueOfRequest (refusal_of_unpivot r) (IsLongText r)

abbrev pub DueOfDummiesRequest : DummiesRequest → Status → List ℕ → Type 0
DueOfDummiesRequest r = DueOfRequest (refusal_of_dummies r) (IsDummiesText r)

abbrev pub DueOfPivotRequest : PivotRequest → Status → List ℕ → Type 0
DueOfPivotRequest r = DueOfRequest (refusal_of_pivot r) (IsWideText r)
