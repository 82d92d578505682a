-- The texts of answers and refusals.
use Rattle.std.specs.Prelude.{◌≡◌, ℕ, List, [], ◌∷◌, ◌++◌, map, codes}
use Rattle.serde_json.specs.Data.{Data, number, unsigned, string, array, object, member, no_members}
use Rattle.serde_json.specs.View.{items_of}
use Rattle.serde_json.specs.Written.{compact_text}
use Rattle.tb_frame.specs.Promise.Table.{Table, height}
use Rattle.tb_json.specs.Promise.Text.{column_data}
use Rattle.tb_json.specs.Promise.Text as texts
use Rattle.tb_delta.specs.declared.fault.DeltaFault.{DeltaFault}
use Rattle.tb_delta.specs.declared.fault.DeltaFault.TheVariants as fault
use Rattle.tb_delta_request.specs.Promise.Answers.{IsEndOf, Refusal, at_step, by_operation, told_by}
use Rattle.tb_delta_request.specs.Promise.Reading.{DeltaRequest}

-- ids as numbers, in a list for each step
abbrev pub id_data : ℕ → Data
id_data id = number (unsigned id)

abbrev pub ids_data : List ℕ → Data
ids_data ids = array (items_of (map id_data ids))

abbrev pub lists_data : List (List ℕ) → Data
lists_data lists = array (items_of (map ids_data lists))

-- a table and, behind its height, the partners that each step told
abbrev pub kept_data : Table → List (List ℕ) → Data
kept_data t lists = object (member (codes "columns") (array (items_of (map column_data t)))
    (member (codes "height") (number (unsigned (height t)))
    (member (codes "partners") (lists_data lists) no_members)))

-- the compact text and a newline
unfoldable pub kept_text : Table → List (List ℕ) → List ℕ
kept_text t lists = compact_text (kept_data t lists) ++ 10 ∷ []

-- the text is that of some answer to the request
abbrev pub IsKeptText : DeltaRequest → List ℕ → Type 0
IsKeptText r text = (t : Table) × IsEndOf r t × (text ≡ kept_text t (told_by r))

abbrev pub fault_word : DeltaFault → List ℕ
fault_word fault.Schema = codes "Schema"
fault_word fault.Full = codes "Full"
fault_word fault.NoRow = codes "NoRow"
fault_word fault.OutOfMemory = codes "OutOfMemory"

-- a step that is refused: why, and its place
abbrev pub step_data : ℕ × DeltaFault → Data
step_data f = object (member (codes "error") (string (fault_word f.1))
    (member (codes "step") (number (unsigned f.0)) no_members))

unfoldable pub step_text : ℕ × DeltaFault → List ℕ
step_text f = compact_text (step_data f) ++ 10 ∷ []

-- the text of an operation's error, or of a step's
abbrev pub text_of_refusal : Refusal → List ℕ
text_of_refusal (by_operation e) = texts.text_of_refusal e
text_of_refusal (at_step f) = step_text f
