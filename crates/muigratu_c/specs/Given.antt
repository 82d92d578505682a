-- What has been done with the room of what was answered.
use Rattle.std.specs.Prelude.{◌≡◌, ℕ, List, length, Result, Ok, Err}
use Rattle.tb_value.specs.declared.error.OutOfMemory.{OutOfMemory}
use Rattle.tb_answer.specs.declared.outcomes.Answer.{Answer}
use Rattle.tb_answer.specs.Promise.Due.{code_of}
use Rattle.tb_row_join.specs.Promise.Rooms.{IsHandedOver}
use Rattle.muigratu_c.specs.declared.MuigratuEnded.{MuigratuEnded}

-- the text was handed over, or memory was wanting
abbrev pub IsGiven : Result Answer OutOfMemory → List ℕ → List ℕ → MuigratuEnded → Type 0
IsGiven (Ok a) before after ended = (ended.status ≡ code_of a.status)
    × (ended.length ≡ length a.text)
    × IsHandedOver a.text before after
IsGiven (Err e) before after ended =
    (ended.status ≡ 6) × (ended.length ≡ 0) × (after ≡ before)
