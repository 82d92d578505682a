-- What is due for the words and the bytes, and what one run has done of it.
use Rattle.std.specs.Prelude.{◌≡◌, ◌≢◌, ℕ, Bool, List, length, Option, Some, None, Result, Ok, Err, IsSomeAnd, ◌≤◌, ⊤}
use Rattle.std.specs.Io.KnownBytes.{Consumes, Appends}
use Rattle.tb_value.specs.declared.error.PolarsError.{PolarsError}
use Rattle.tb_value.specs.declared.error.PolarsError.TheVariants.{OutOfMemory}
use Rattle.tb_value.specs.declared.limits.TheConstants.{MAX_INPUT}
use Rattle.tb_chunk.specs.Promise.Col.{Col}
use Rattle.tb_frame.specs.Promise.Table.{table_of}
use Rattle.tb_json.specs.Promise.Text.{text_of}
use Rattle.tb_pairs.specs.Promise.Trace.{trace_told}
use Rattle.tb_pairs.specs.declared.trace.JoinTrace.{JoinTrace}
use Rattle.tb_plan.specs.declared.faults.PlanFault.{PlanFault}
use Rattle.tb_plan.specs.declared.faults.PlanFault.TheVariants as plan_fault
use Rattle.tb_group_request.specs.Promise.Texts.{grouped_text}
use Rattle.tb_group_request.specs.declared.grouping.GroupedTable.{GroupedTable}
use Rattle.tb_delta_request.specs.declared.keeping.KeptFault.{KeptFault}
use Rattle.tb_delta_request.specs.Lent.{refusal_view}
use Rattle.tb_delta_request.specs.Promise.Answers as kept
use Rattle.tb_delta_request.specs.Promise.Texts as kept_texts
use Rattle.tb_run.specs.Promise.Traces.{joined_text}
use Rattle.tb_run.specs.declared.words.Command.{Command}
use Rattle.tb_run.specs.declared.words.Form.{Form}
use Rattle.tb_run.specs.declared.words.Form.TheVariants.{Reads, Sample, Unknown}
use Rattle.tb_run.specs.declared.status.Status.{Status}
use Rattle.tb_run.specs.declared.status.Status.TheVariants as status
use Rattle.tb_run.specs.Promise.Words.{form}
use Rattle.tb_run.specs.Promise.Requests.{Request, by_operation, by_plan, request_of, refusal_of, IsAnswerText, text_of_refusal}
use Rattle.tb_run.specs.Promise.Due.{due, Tells}

-- a refusal that is not want of memory, with its text
abbrev pub IsRefusal : PolarsError → Status → List ℕ → Type 0
IsRefusal e s text =
    (e ≢ OutOfMemory) × (s ≡ status.Refused) × (text ≡ text_of_refusal (by_operation e))

-- what an operation answers was written: its table, or its refusal
abbrev pub IsOutcome : Result (List Col) PolarsError → Status → List ℕ → Type 0
IsOutcome (Ok table) s text = (s ≡ status.Done) × (text ≡ text_of (table_of table))
IsOutcome (Err e) s text = IsRefusal e s text

-- the same of a join, whose table is written with its trace where that is asked
abbrev pub IsJoinOutcome : Bool → Result (List Col × JoinTrace) PolarsError → Status → List ℕ
    → Type 0
IsJoinOutcome asks (Ok joined) s text =
    (s ≡ status.Done) × (text ≡ joined_text asks (table_of joined.0) (trace_told joined.1))
IsJoinOutcome asks (Err e) s text = IsRefusal e s text

-- and of a table that was grouped, with its trace where that is told
abbrev pub IsGroupOutcome : Result GroupedTable PolarsError → Status → List ℕ → Type 0
IsGroupOutcome (Ok made) s text =
    (s ≡ status.Done) × (text ≡ grouped_text (table_of made.table) made.trace)
IsGroupOutcome (Err e) s text = IsRefusal e s text

-- a fault of a plan that is not want of memory, with its text
abbrev pub IsPlanRefusal : PlanFault → Status → List ℕ → Type 0
IsPlanRefusal e s text =
    (e ≢ plan_fault.OutOfMemory) × (s ≡ status.Refused) × (text ≡ text_of_refusal (by_plan e))

-- what a plan answers was written
abbrev pub IsPlanOutcome : Result (List Col) PlanFault → Status → List ℕ → Type 0
IsPlanOutcome (Ok table) s text = (s ≡ status.Done) × (text ≡ text_of (table_of table))
IsPlanOutcome (Err e) s text = IsPlanRefusal e s text

-- a refusal to keep a join, with its text
abbrev pub IsKeptRefusal : KeptFault → Status → List ℕ → Type 0
IsKeptRefusal fault s text = (s ≡ status.Refused)
    × ((r : kept.Refusal) × (refusal_view fault ≡ Some r) × (text ≡ kept_texts.text_of_refusal r))

-- the status of a text that is due
abbrev pub HasText : Status → Type 0
HasText status.Done = ⊤
HasText status.Refused = ⊤
HasText status.Usage = ⊤
HasText status.BadRequest = ⊤
HasText status.TooLong = ⊤
HasText status.ReadFault = ⊥
HasText status.WriteFault = ⊥
HasText status.OutOfMemory = ⊥

-- the words ask for a command, which reads a request
abbrev pub IsCommand : Form → Type 0
IsCommand (Reads command) = ⊤
IsCommand (Sample rows) = ⊥
IsCommand Unknown = ⊥

-- the words have a form
abbrev pub IsKnown : Form → Type 0
IsKnown (Reads command) = ⊤
IsKnown (Sample rows) = ⊤
IsKnown Unknown = ⊥

-- the words have a form, and under a command the source tells a request that nothing refuses
abbrev pub IsValid : Form → Option (List ℕ) → Type 0
IsValid (Reads command) told = IsSomeAnd told (λ bytes.
    (length bytes ≤ MAX_INPUT)
    × ((q : Request) × (request_of command bytes ≡ Ok q) × (refusal_of q ≡ None)))
IsValid (Sample rows) told = ⊤
IsValid Unknown told = ⊥

-- The headline: the bytes, read to their end, are a request that nothing refuses, and the text of an answer to it was written.
pub record DoneFor (command : Command)
    (left left' written written' : Option (List ℕ)) : Type 0 where
  pub bytes : List ℕ
  pub told : Tells left bytes
  pub short : length bytes ≤ MAX_INPUT
  pub read : Consumes left left' bytes
  pub request : Request
  pub is_request : request_of command bytes ≡ Ok request
  pub valid : refusal_of request ≡ None
  pub text : List ℕ
  pub is_answer : IsAnswerText request text
  pub wrote : Appends written written' text
