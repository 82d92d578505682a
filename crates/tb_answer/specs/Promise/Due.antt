-- What is due for the bytes of a request: a text, and the status that goes with it.
use Rattle.std.specs.Prelude.{◌≡◌, ℕ, Bool, List, Option, Result, Ok, Err, MatchOption, if◌then◌else◌}
use Rattle.serde_json.specs.Data.{null}
use Rattle.tb_value.specs.declared.error.PolarsError.{PolarsError}
use Rattle.tb_frame.specs.Promise.Join.{IsAnswer}
use Rattle.tb_frame.specs.Promise.Refusal.{join_refusal}
use Rattle.tb_frame.specs.Promise.Table.{Table, table_of}
use Rattle.tb_unpivot.specs.Promise.Unpivot.{unpivot_refusal, unpivot_table}
use Rattle.tb_unpivot.specs.Promise.Unpivot as long
use Rattle.tb_dummies.specs.Promise.Dummies.{dummies_refusal, dummies_table}
use Rattle.tb_dummies.specs.Promise.Dummies as marked
use Rattle.tb_pivot.specs.Promise.Pivot.{pivot_table}
use Rattle.tb_pivot.specs.Promise.Refusal.{pivot_refusal}
use Rattle.tb_pivot.specs.Promise.Request as wide
use Rattle.tb_calls.specs.Promise.Asked.{long_request, dummies_request, wide_request}
use Rattle.tb_json.specs.Promise.Text.{text_of, text_of_refusal, traced_text_of}
use Rattle.tb_request.specs.declared.request.Reason.{Reason}
use Rattle.tb_request.specs.Promise.Reading.{JoinRequest, UnpivotRequest, DummiesRequest, PivotRequest, asked_request, join_request_of, unpivot_request_of, dummies_request_of, pivot_request_of}
use Rattle.tb_request.specs.Promise.Reasons.{bad_request_text}
use Rattle.tb_answer.specs.declared.status.Status.{Status}
use Rattle.tb_answer.specs.declared.status.Status.TheVariants as status

-- the numbers of the JSON program's statuses
abbrev pub code_of : Status → ℕ
code_of status.Done = 0
code_of status.Refused = 1
code_of status.BadRequest = 3

-- WHAT IS ASKED

-- of the table that is made long
abbrev pub asked_long : UnpivotRequest → long.Request
asked_long r = long_request (table_of r.table) r.on r.index r.variable_name r.value_name

-- of the table whose columns are replaced
abbrev pub asked_dummies : DummiesRequest → marked.Request
asked_dummies r = dummies_request (table_of r.table) r.columns r.separator r.drop_first

-- of the table that is made wide
abbrev pub asked_wide : PivotRequest → wide.Request
asked_wide r =
    wide_request (table_of r.table) r.on r.index r.values r.sort_columns r.agg r.separator

-- WHY A REQUEST IS REFUSED, IF IT IS

-- one to join two tables
unfoldable pub refusal_of_join : JoinRequest → Option PolarsError
refusal_of_join r = join_refusal (asked_request r)

-- one to make a table long
unfoldable pub refusal_of_unpivot : UnpivotRequest → Option PolarsError
refusal_of_unpivot r = unpivot_refusal (asked_long r)

-- one to replace columns of a table by dummies
unfoldable pub refusal_of_dummies : DummiesRequest → Option PolarsError
refusal_of_dummies r = dummies_refusal (asked_dummies r)

-- one to make a table wide
unfoldable pub refusal_of_pivot : PivotRequest → Option PolarsError
refusal_of_pivot r = pivot_refusal (asked_wide r)

-- TEXTS

-- the text of a joined table; where a trace is asked, with one that tells nothing
abbrev pub joined_text : Bool → Table → List ℕ
joined_text asks t = (if asks then traced_text_of t null else text_of t)

-- the text is that of some answer to the request to join
unfoldable pub IsJoinText : JoinRequest → List ℕ → Type 0
IsJoinText r text =
    (t : Table) × IsAnswer (asked_request r) t × (text ≡ joined_text r.trace t)

-- the text is that of the long table
unfoldable pub IsLongText : UnpivotRequest → List ℕ → Type 0
IsLongText r text = text ≡ text_of (unpivot_table (asked_long r))

-- the text is that of the table with dummies
unfoldable pub IsDummiesText : DummiesRequest → List ℕ → Type 0
IsDummiesText r text = text ≡ text_of (dummies_table (asked_dummies r))

-- the text is that of the wide table
unfoldable pub IsWideText : PivotRequest → List ℕ → Type 0
IsWideText r text = text ≡ text_of (pivot_table (asked_wide r))

-- WHAT IS DUE

-- a request is refused, or the text answers it
abbrev pub DueOfRequest : Option PolarsError → (List ℕ → Type 0) → Status → List ℕ → Type 0
DueOfRequest refusal IsText s text = MatchOption refusal
    ((s ≡ status.Done) × IsText text)
    (λ e. (s ≡ status.Refused) × (text ≡ text_of_refusal e))

-- the bytes are a request, or there is a reason why they are none
abbrev pub DueOfReading : {R : Type 0} → (R → Option PolarsError) → (R → List ℕ → Type 0)
    → Result R Reason → Status → List ℕ → Type 0
DueOfReading refusal IsText (Ok r) s text = DueOfRequest (refusal r) (IsText r) s text
DueOfReading refusal IsText (Err reason) s text =
    (s ≡ status.BadRequest) × (text ≡ bad_request_text reason)

-- of the bytes of a request to join two tables
abbrev pub DueOfJoin : List ℕ → Status → List ℕ → Type 0
DueOfJoin bytes = DueOfReading refusal_of_join IsJoinText (join_request_of bytes)

-- of one to make a table long
abbrev pub DueOfUnpivot : List ℕ → Status → List ℕ → Type 0
DueOfUnpivot bytes = DueOfReading refusal_of_unpivot IsLongText (unpivot_request_of bytes)

-- of one to replace columns of a table by dummies
abbrev pub DueOfDummies : List ℕ → Status → List ℕ → Type 0
DueOfDummies bytes = DueOfReading refusal_of_dummies IsDummiesText (dummies_request_of bytes)

-- of one to make a table wide
abbrev pub DueOfPivot : List ℕ → Status → List ℕ → Type 0
DueOfPivot bytes = DueOfReading refusal_of_pivot IsWideText (pivot_request_of bytes)
