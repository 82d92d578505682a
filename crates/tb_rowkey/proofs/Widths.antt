-- The bytes of a type's width tell its whole numbers apart.
use Rattle.std.proofs.Common.{◌≡◌, ℕ, ◌^◌, ◌%◌, ap, arith}
use Rattle.std.specs.Prelude.{ℤ, pos, negsuc, ◌≤ℤ◌, IsSomeAnd}
use Rattle.std.proofs.lemmas.Int.{ints}
use Rattle.tb_value.specs.Promise.Kind.{Kind, int8, int16, int32, int64, int128, uint8, uint16, uint32, uint64, date, time, datetime, duration}
use Rattle.tb_value.specs.Promise.Typed.{ends}
use Rattle.tb_rowkey.specs.Promise.Bytes.{width, twos_complement}

-- a number from -h - 1 up to h, and one up to h
abbrev IsSigned : ℕ → ℤ → Type 0
IsSigned h z = (negsuc h ≤ℤ z) × (z ≤ℤ pos h)

abbrev IsUnsigned : ℕ → ℤ → Type 0
IsUnsigned h z = (pos 0 ≤ℤ z) × (z ≤ℤ pos h)

signed_1 : (i j : ℤ) → IsSigned 127 i → IsSigned 127 j → twos_complement i % 256 ≡ twos_complement j % 256 → i ≡ j
signed_1 (pos a) (pos b) l r e = ap pos (omega (arith, ints))
signed_1 (negsuc a) (negsuc b) l r e = ap negsuc (omega (arith, ints))
signed_1 (pos a) (negsuc b) l r e = absurd (omega (arith, ints))
signed_1 (negsuc a) (pos b) l r e = absurd (omega (arith, ints))

signed_2 : (i j : ℤ) → IsSigned 32767 i → IsSigned 32767 j → twos_complement i % 65536 ≡ twos_complement j % 65536 → i ≡ j
signed_2 (pos a) (pos b) l r e = ap pos (omega (arith, ints))
signed_2 (negsuc a) (negsuc b) l r e = ap negsuc (omega (arith, ints))
signed_2 (pos a) (negsuc b) l r e = absurd (omega (arith, ints))
signed_2 (negsuc a) (pos b) l r e = absurd (omega (arith, ints))

signed_4 : (i j : ℤ) → IsSigned 2147483647 i → IsSigned 2147483647 j → twos_complement i % 4294967296 ≡ twos_complement j % 4294967296 → i ≡ j
signed_4 (pos a) (pos b) l r e = ap pos (omega (arith, ints))
signed_4 (negsuc a) (negsuc b) l r e = ap negsuc (omega (arith, ints))
signed_4 (pos a) (negsuc b) l r e = absurd (omega (arith, ints))
signed_4 (negsuc a) (pos b) l r e = absurd (omega (arith, ints))

signed_8 : (i j : ℤ) → IsSigned 9223372036854775807 i → IsSigned 9223372036854775807 j
    → twos_complement i % 18446744073709551616 ≡ twos_complement j % 18446744073709551616 → i ≡ j
signed_8 (pos a) (pos b) l r e = ap pos (omega (arith, ints))
signed_8 (negsuc a) (negsuc b) l r e = ap negsuc (omega (arith, ints))
signed_8 (pos a) (negsuc b) l r e = absurd (omega (arith, ints))
signed_8 (negsuc a) (pos b) l r e = absurd (omega (arith, ints))

signed_16 : (i j : ℤ) → IsSigned 170141183460469231731687303715884105727 i → IsSigned 170141183460469231731687303715884105727 j
    → twos_complement i % 340282366920938463463374607431768211456 ≡ twos_complement j % 340282366920938463463374607431768211456 → i ≡ j
signed_16 (pos a) (pos b) l r e = ap pos (omega (arith, ints))
signed_16 (negsuc a) (negsuc b) l r e = ap negsuc (omega (arith, ints))
signed_16 (pos a) (negsuc b) l r e = absurd (omega (arith, ints))
signed_16 (negsuc a) (pos b) l r e = absurd (omega (arith, ints))

unsigned_1 : (i j : ℤ) → IsUnsigned 255 i → IsUnsigned 255 j → twos_complement i % 256 ≡ twos_complement j % 256 → i ≡ j
unsigned_1 (pos a) (pos b) l r e = ap pos (omega (arith, ints))
unsigned_1 (negsuc a) j l r e = absurd (omega (arith, ints))
unsigned_1 i (negsuc b) l r e = absurd (omega (arith, ints))

unsigned_2 : (i j : ℤ) → IsUnsigned 65535 i → IsUnsigned 65535 j → twos_complement i % 65536 ≡ twos_complement j % 65536 → i ≡ j
unsigned_2 (pos a) (pos b) l r e = ap pos (omega (arith, ints))
unsigned_2 (negsuc a) j l r e = absurd (omega (arith, ints))
unsigned_2 i (negsuc b) l r e = absurd (omega (arith, ints))

unsigned_4 : (i j : ℤ) → IsUnsigned 4294967295 i → IsUnsigned 4294967295 j → twos_complement i % 4294967296 ≡ twos_complement j % 4294967296 → i ≡ j
unsigned_4 (pos a) (pos b) l r e = ap pos (omega (arith, ints))
unsigned_4 (negsuc a) j l r e = absurd (omega (arith, ints))
unsigned_4 i (negsuc b) l r e = absurd (omega (arith, ints))

unsigned_8 : (i j : ℤ) → IsUnsigned 18446744073709551615 i → IsUnsigned 18446744073709551615 j
    → twos_complement i % 18446744073709551616 ≡ twos_complement j % 18446744073709551616 → i ≡ j
unsigned_8 (pos a) (pos b) l r e = ap pos (omega (arith, ints))
unsigned_8 (negsuc a) j l r e = absurd (omega (arith, ints))
unsigned_8 i (negsuc b) l r e = absurd (omega (arith, ints))

-- a whole number of the type
abbrev pub IsWholeOf : Kind → ℤ → Type 0
IsWholeOf t z = IsSomeAnd (ends t) (λ e. (e.0 ≤ℤ z) × (z ≤ℤ e.1))

pub wholes_apart : (t : Kind) (i j : ℤ) → IsWholeOf t i → IsWholeOf t j → twos_complement i % 256 ^ width t ≡ twos_complement j % 256 ^ width t → i ≡ j
wholes_apart int8 i j l r e = signed_1 i j l r e
wholes_apart int16 i j l r e = signed_2 i j l r e
wholes_apart int32 i j l r e = signed_4 i j l r e
wholes_apart int64 i j l r e = signed_8 i j l r e
wholes_apart int128 i j l r e = signed_16 i j l r e
wholes_apart uint8 i j l r e = unsigned_1 i j l r e
wholes_apart uint16 i j l r e = unsigned_2 i j l r e
wholes_apart uint32 i j l r e = unsigned_4 i j l r e
wholes_apart uint64 i j l r e = unsigned_8 i j l r e
wholes_apart date i j l r e = signed_4 i j l r e
wholes_apart time i j l r e = signed_8 i j l r e
wholes_apart (datetime u z) i j l r e = signed_8 i j l r e
wholes_apart (duration u) i j l r e = signed_8 i j l r e
wholes_apart _ i j l r e = absurd l
