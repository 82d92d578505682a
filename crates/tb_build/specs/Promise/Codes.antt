-- The codes of keys, and the partition that a code falls into.
use Rattle.std.specs.Prelude.{ℕ, ◌-◌, ◌*◌, ◌/◌, ◌%◌, ◌^◌, Bool, true, false, bit_xor, List, fold, ℤ, pos, negsuc}

-- a whole number modulo n, which is never negative
abbrev pub modulo : ℤ → ℕ → ℕ
modulo (pos a) n = a % n
modulo (negsuc a) n = n - 1 - a % n

abbrev pub fibonacci : ℕ → ℕ
fibonacci n = (n * 0x9E3779B97F4A7C15) % 2 ^ 64

abbrev pub code_of_int : ℤ → ℕ
code_of_int z = fibonacci (modulo z (2 ^ 64))

-- of a truth value as a whole number
abbrev pub code_of_bool : Bool → ℕ
code_of_bool true = fibonacci 1
code_of_bool false = fibonacci 0

-- the high and the low half of a number modulo 2 ^ 128, by exclusive or
abbrev pub code_of_wide : ℤ → ℕ
code_of_wide z = fibonacci (bit_xor (modulo z (2 ^ 128) / 2 ^ 64) (modulo z (2 ^ 128) % 2 ^ 64))

-- FNV-1a of 64 bits
abbrev pub fnv1a : List ℕ → ℕ
fnv1a bytes = fold (λ h b. (bit_xor h b * 0x100000001b3) % 2 ^ 64) 0xcbf29ce484222325 bytes

-- the partition of a code, of n
abbrev pub part_of : ℕ → ℕ → ℕ
part_of code n = code * n / 2 ^ 64
