-- A row in a chunk, or none, as one number of 64 bits.
use Rattle.std.specs.Prelude.{◌&&◌, nat_eq, ◌≢◌, ◌<◌, ◌≤◌, ◌+◌, ◌*◌, ◌^◌, ◌/◌, ◌%◌, ◌==◌, ℕ, Bool, Option, Some, None, cond}

-- the chunk in the low bits and the row above them; all ones stand for none
abbrev pub of_swizzled : ℕ → ℕ → Option (ℕ × ℕ)
of_swizzled bits n = cond (n == 18446744073709551615) None (Some (n % 2 ^ bits, n / 2 ^ bits))

abbrev pub to_swizzled : ℕ → Option (ℕ × ℕ) → ℕ
to_swizzled bits None = 18446744073709551615
to_swizzled bits (Some p) = p.1 * 2 ^ bits + p.0

-- where there is a row, 1 to 32 bits hold the chunk, and a row number stands above them
abbrev pub IsSwizzled : ℕ → ℕ → Type 0
IsSwizzled bits n =
    n ≢ 18446744073709551615 → (0 < bits) × (bits ≤ 32) × (n / 2 ^ bits < 4294967295)

-- the same chunk and the same row
abbrev pub same_row : ℕ × ℕ → ℕ × ℕ → Bool
same_row p q = nat_eq p.0 q.0 && nat_eq p.1 q.1
