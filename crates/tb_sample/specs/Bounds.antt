-- How far sums are from 0.
use Rattle.std.specs.Prelude.{ℕ, ◌*◌, ℤ, pos, neg_ℤ, ◌≤ℤ◌}

-- a sum of n numbers of 64 bits
abbrev pub IsSumOf : ℕ → ℤ → Type 0
IsSumOf n z = (neg_ℤ (pos (9223372036854775808 * n)) ≤ℤ z) × (z ≤ℤ pos (9223372036854775808 * n))
