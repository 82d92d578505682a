-- What reading a request takes of a source.
use Rattle.std.specs.Prelude.{◌≡◌, ℕ, ◌+◌, ◌≤◌, Bool, IsTrue, List, length, Option, Result, Ok, Err}
use Rattle.std.specs.Io.KnownBytes.{Consumes, IsAtEnd}
use Rattle.tb_value.specs.declared.limits.TheConstants.{MAX_INPUT}
use Rattle.tb_run.specs.declared.reading.ReadError.{ReadError}
use Rattle.tb_run.specs.declared.reading.ReadError.TheVariants.{Failed, OutOfMemory}
use Rattle.tb_run.specs.declared.reading.Input.{Input}
use Rattle.tb_run.specs.declared.reading.Input.TheVariants.{Whole, TooLong}
use Rattle.tb_run.specs.Ends.{Rose}

-- all bytes up to the end, or as many as the limit and one more
abbrev pub WasRead : Option (List ℕ) → Option (List ℕ) → Input → Type 0
WasRead before after (Whole bytes) =
    Consumes before after bytes.items × IsAtEnd after × (length bytes.items ≤ MAX_INPUT)
WasRead before after TooLong =
    (taken : List ℕ) × Consumes before after taken × (length taken ≡ MAX_INPUT + 1)

-- The count has not fallen. A read that failed made it rise and is told, and with no such read a count that is exact is as it was.
abbrev pub CountsReads : {A : Type 0} → Bool → ℕ → ℕ → Result A ReadError → Type 0
CountsReads exact before now (Ok a) = (before ≤ now) × (IsTrue exact → now ≡ before)
CountsReads exact before now (Err Failed) = (before ≤ now) × Rose before now
CountsReads exact before now (Err OutOfMemory) = (before ≤ now) × (IsTrue exact → now ≡ before)
