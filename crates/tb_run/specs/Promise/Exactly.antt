-- Exactly when each status comes.
use Rattle.std.specs.Prelude.{ℕ, ◌<◌, Bool, IsTrue, List}
use Rattle.tb_run.specs.declared.status.Status.{Status}
use Rattle.tb_run.specs.declared.status.Status.TheVariants as status
use Rattle.tb_run.specs.Ends.{last_count}
use Rattle.tb_run.specs.Promise.Due.{due}

-- The counts of both ends tell each fault: they are exact, and haven't come to their last value.
pub record TellFaults (source_exact sink_exact : Bool) (read_faults write_faults : ℕ) : Type 0 where
  pub reads : IsTrue source_exact
  pub writes : IsTrue sink_exact
  pub reads_below : read_faults < last_count
  pub writes_below : write_faults < last_count

-- When a status comes for the words and the bytes, by whether a read has failed and whether a write has: 4 where a read has, 5 where a write has,
-- and each other one where neither has and a text is due with it. Want of memory is no part of it.
abbrev pub Comes : List (List ℕ) → List ℕ → Type 0 → Type 0 → Status → Type 0
Comes words bytes read_failed write_failed status.ReadFault = read_failed
Comes words bytes read_failed write_failed status.WriteFault = write_failed
Comes words bytes read_failed write_failed status.OutOfMemory = ⊥
Comes words bytes read_failed write_failed s =
    ¬ read_failed × ¬ write_failed × ((text : List ℕ) × due words bytes s text)
