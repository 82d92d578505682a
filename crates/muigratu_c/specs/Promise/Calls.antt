-- What a call has done with the caller's room.
use Rattle.std.specs.Prelude.{◌≡◌, ◌⊎◌, ℕ, List, length}
use Rattle.tb_answer.specs.declared.status.Status.{Status}
use Rattle.tb_answer.specs.Promise.Due.{code_of}
use Rattle.tb_row_join.specs.Promise.Rooms.{IsHandedOver}
use Rattle.muigratu_c.specs.declared.MuigratuEnded.{MuigratuEnded}

-- memory was wanting and nothing was done, or a text that is due was handed over, with its status
abbrev pub HasAnswered : (Status → List ℕ → Type 0) → List ℕ → List ℕ → MuigratuEnded → Type 0
HasAnswered IsDue before after ended =
    ((ended.status ≡ 6) × (ended.length ≡ 0) × (after ≡ before))
    ⊎ ((s : Status) × (text : List ℕ) × IsDue s text × (ended.status ≡ code_of s)
    × (ended.length ≡ length text) × IsHandedOver text before after)
