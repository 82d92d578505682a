-- One status alone is due.
use Rattle.std.proofs.Common.{◌≡◌, ℕ, List, length, Option, None, Some, Result, Ok, Err, Bool, true, false, MatchBool, MatchOption, nat_lt, sym, ◌∙◌}
use Rattle.tb_value.specs.declared.limits.TheConstants.{MAX_INPUT}
use Rattle.tb_run.specs.declared.words.Command.{Command}
use Rattle.tb_run.specs.declared.words.Form.{Form}
use Rattle.tb_run.specs.declared.words.Form.TheVariants.{Reads, Sample, Unknown}
use Rattle.tb_run.specs.declared.status.Status.{Status}
use Rattle.tb_run.specs.declared.status.Status.TheVariants as status
use Rattle.tb_run.specs.Promise.Words.{form}
use Rattle.tb_run.specs.Promise.Requests.{Refusal, Request, request_of, refusal_of, IsAnswerText, text_of_refusal}
use Rattle.tb_run.specs.Promise.Due.{due, DueOfReading, DueOfForm, too_long_text}

one_request : (refusal : Option Refusal) (q : Request) (s s' : Status) (text text' : List ℕ)
    → MatchOption refusal ((s ≡ status.Done) × IsAnswerText q text) (λ e. (s ≡ status.Refused) × (text ≡ text_of_refusal e))
    → MatchOption refusal ((s' ≡ status.Done) × IsAnswerText q text') (λ e. (s' ≡ status.Refused) × (text' ≡ text_of_refusal e)) → s ≡ s'
one_request None q s s' text text' d d' = d.0 ∙ sym d'.0
one_request (Some e) q s s' text text' d d' = d.0 ∙ sym d'.0

one_reading : (read : Result Request _) (s s' : Status) (text text' : List ℕ) → DueOfReading read s text → DueOfReading read s' text' → s ≡ s'
one_reading (Ok q) s s' text text' d d' = one_request (refusal_of q) q s s' text text' d d'
one_reading (Err reason) s s' text text' d d' = d.0 ∙ sym d'.0

one_command : (command : Command) (long : Bool) (bytes : List ℕ) (s s' : Status) (text text' : List ℕ)
    → MatchBool long ((s ≡ status.TooLong) × (text ≡ too_long_text)) (DueOfReading (request_of command bytes) s text)
    → MatchBool long ((s' ≡ status.TooLong) × (text' ≡ too_long_text)) (DueOfReading (request_of command bytes) s' text') → s ≡ s'
one_command command true bytes s s' text text' d d' = d.0 ∙ sym d'.0
one_command command false bytes s s' text text' d d' = one_reading (request_of command bytes) s s' text text' d d'

one_form : (asked : Form) (bytes : List ℕ) (s s' : Status) (text text' : List ℕ) → DueOfForm asked bytes s text → DueOfForm asked bytes s' text' → s ≡ s'
one_form (Reads command) bytes s s' text text' d d' = one_command command (nat_lt MAX_INPUT (length bytes)) bytes s s' text text' d d'
one_form (Sample rows) bytes s s' text text' d d' = d.0 ∙ sym d'.0
one_form Unknown bytes s s' text text' d d' = d.0 ∙ sym d'.0

pub one_status : (words : List (List ℕ)) (bytes : List ℕ) (s s' : Status) (text text' : List ℕ) → due words bytes s text → due words bytes s' text' → s ≡ s'
one_status words bytes s s' text text' d d' = one_form (form words) bytes s s' text text' d d'
