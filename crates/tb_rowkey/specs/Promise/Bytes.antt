-- The bytes of a whole number.
use Rattle.std.specs.Prelude.{ℕ, ℤ, List}
use Rattle.std.specs.Int.{w128, cast_unsigned, bytes_high_first}
use Rattle.tb_value.specs.Promise.Kind.{Kind, int8, int16, int32, int64, int128, uint8, uint16, uint32, uint64, date, time, datetime, duration}

-- how many bytes a whole number of the type is stored in, by its physical type
abbrev pub width : Kind → ℕ
width int8 = 1
width uint8 = 1
width int16 = 2
width uint16 = 2
width int32 = 4
width uint32 = 4
width date = 4
width int64 = 8
width uint64 = 8
width time = 8
width (datetime u z) = 8
width (duration u) = 8
width int128 = 16
width _ = 0

-- the number that has the bits of z in two's complement
abbrev pub twos_complement : ℤ → ℕ
twos_complement z = cast_unsigned w128 z

-- the lowest k bytes of z in two's complement, the highest of them first
abbrev pub whole_bytes : ℕ → ℤ → List ℕ
whole_bytes k z = bytes_high_first k (twos_complement z)
