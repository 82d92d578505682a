-- Why a merge gives up.
use Rattle.std.specs.Prelude.{◌≡◌, ℕ, ◌<◌, ◌≤◌, ◌⊎◌, Result, MatchResult, IfErr}
use Rattle.tb_value.specs.declared.limits.TheConstants.{MAX_ROWS}
use Rattle.tb_merge.specs.declared.fault.MergeFault.{MergeFault}
use Rattle.tb_merge.specs.declared.fault.MergeFault.TheVariants.{TooManyRows, OutOfMemory}

-- the cause is want of memory, or that n pairs are too many
abbrev pub IsCauseOf : ℕ → MergeFault → Type 0
IsCauseOf n e = (e ≡ OutOfMemory) ⊎ ((e ≡ TooManyRows) × (MAX_ROWS < n))

-- A call that lists n pairs passes exactly where they are at most MAX_ROWS, and else refuses them. Want of memory may
-- come at any time
abbrev pub SettlesCount : {T : Type 0} → Result T MergeFault → ℕ → Type 0
SettlesCount r n = MatchResult r (λ _. n ≤ MAX_ROWS) (IsCauseOf n)

-- a step of a merge of n pairs gives up for no other cause than the merge
abbrev pub GivesUpFor : {T : Type 0} → Result T MergeFault → ℕ → Type 0
GivesUpFor r n = IfErr r (IsCauseOf n)
