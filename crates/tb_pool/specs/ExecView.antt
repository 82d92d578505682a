-- What contracts see of an `Exec`: the numbers by which work is run.
use Rattle.std.specs.Prelude.{ℕ, ◌≤◌}

-- 1 to 1,024
abbrev pub MayCount : ℕ → Type 0
MayCount n = (1 ≤ n) × (n ≤ 1024)

-- there are 1 to 1,024 workers and partitions, and nothing is divided by 0
abbrev pub MayStand : ℕ → ℕ → ℕ → Type 0
MayStand workers partitions den = MayCount workers × MayCount partitions × (1 ≤ den)
