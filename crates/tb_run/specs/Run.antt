-- How a run ends that has a text to write.
use Rattle.std.specs.Prelude.{◌≡◌, ℕ, ◌⊎◌, Bool, IsTrue, List, Option}
use Rattle.std.specs.Io.KnownBytes.{Appends}
use Rattle.tb_run.specs.Ends.{Rose, AppendsPart}
use Rattle.tb_run.specs.declared.status.Status.{Status}
use Rattle.tb_run.specs.declared.status.Status.TheVariants as status

-- the text was written with no fault and its status answered, or a write failed on the way
abbrev pub IsReply : Bool → Option (List ℕ) → Option (List ℕ) → ℕ → ℕ → Status → List ℕ → Status
    → Type 0
IsReply exact before after faults faults' s text result =
    ((result ≡ s) × Appends before after text × (IsTrue exact → faults' ≡ faults))
    ⊎ ((result ≡ status.WriteFault) × Rose faults faults' × AppendsPart before after text)
