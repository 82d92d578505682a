-- What is due for the words and the bytes, and what one run has done of it.
use Rattle.std.specs.Prelude.{◌≡◌, ℕ, ◌+◌, ◌++◌, List, [], ◌∷◌, take, length, codes, Option, Some, None, Result, Ok, Err, MatchOption, MatchBool, nat_lt, ⊤}
use Rattle.std.specs.Io.KnownBytes.{Consumes}
use Rattle.tb_value.specs.declared.limits.TheConstants.{MAX_INPUT}
use Rattle.tb_sample.specs.Promise.Sample.{IsSummary, text_of_summary}
use Rattle.tb_sample.specs.declared.summary.Summary.{Summary}
use Rattle.tb_request.specs.declared.request.Reason.{Reason}
use Rattle.tb_request.specs.Promise.Reasons.{bad_request_text}
use Rattle.tb_run.specs.declared.words.Form.{Form}
use Rattle.tb_run.specs.declared.words.Form.TheVariants.{Reads, Sample, Unknown}
use Rattle.tb_run.specs.declared.status.Status.{Status}
use Rattle.tb_run.specs.declared.status.Status.TheVariants as status
use Rattle.tb_run.specs.Promise.Words.{form}
use Rattle.tb_run.specs.Promise.Requests.{Request, request_of, refusal_of, IsAnswerText, text_of_refusal}

abbrev pub line : List ℕ → List ℕ
line text = text ++ 10 ∷ []

abbrev pub usage_text : List ℕ
usage_text = line (codes "{\"error\":\"Usage\"}")

abbrev pub too_long_text : List ℕ
too_long_text = line (codes "{\"error\":\"TooLong\"}")

-- a request is refused, or it is done
abbrev pub DueOfRequest : Request → Status → List ℕ → Type 0
DueOfRequest q s text = MatchOption (refusal_of q)
    ((s ≡ status.Done) × IsAnswerText q text)
    (λ e. (s ≡ status.Refused) × (text ≡ text_of_refusal e))

-- the bytes are a request, or there is a reason why they are none
abbrev pub DueOfReading : Result Request Reason → Status → List ℕ → Type 0
DueOfReading (Ok q) s text = DueOfRequest q s text
DueOfReading (Err reason) s text = (s ≡ status.BadRequest) × (text ≡ bad_request_text reason)

-- the text tells of an answer to the join of the sample's tables
abbrev pub IsSampleText : ℕ → List ℕ → Type 0
IsSampleText rows text = (told : Summary) × IsSummary rows told × (text ≡ text_of_summary told)

-- the table of what is due for each form of words, and for a command by its bytes
abbrev pub DueOfForm : Form → List ℕ → Status → List ℕ → Type 0
DueOfForm Unknown bytes s text = (s ≡ status.Usage) × (text ≡ usage_text)
DueOfForm (Sample rows) bytes s text = (s ≡ status.Done) × IsSampleText rows text
DueOfForm (Reads command) bytes s text = MatchBool (nat_lt MAX_INPUT (length bytes))
    ((s ≡ status.TooLong) × (text ≡ too_long_text))
    (DueOfReading (request_of command bytes) s text)

-- the status and the text that are due for the words and the bytes
abbrev pub due : List (List ℕ) → List ℕ → Status → List ℕ → Type 0
due words bytes s text = DueOfForm (form words) bytes s text

-- ONE RUN

-- Known bytes are these. Unknown ones may be any.
abbrev pub Tells : Option (List ℕ) → List ℕ → Type 0
Tells None bytes = ⊤
Tells (Some known) bytes = known ≡ bytes

-- what is read of the bytes: for a command all of them, up to the first one past the limit
abbrev pub read_for : Form → List ℕ → List ℕ
read_for (Reads command) bytes = take (MAX_INPUT + 1) bytes
read_for (Sample rows) bytes = []
read_for Unknown bytes = []

-- The status and the text are due for the words and the source's bytes, and of these the call has read what it is to read.
pub record IsDue (asked : Form) (before after : Option (List ℕ)) (s : Status)
    (text : List ℕ) : Type 0 where
  pub bytes : List ℕ
  pub told : Tells before bytes
  pub due : DueOfForm asked bytes s text
  pub read : Consumes before after (read_for asked bytes)
