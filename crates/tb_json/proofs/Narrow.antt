-- The whole numbers of all types but one have at most 64 bits.
use Rattle.std.proofs.Common.{◌≡◌, ◌≤◌, ℕ, ℤ, pos, negsuc, ◌≤ℤ◌, false, arith, true≢false}
use Rattle.std.proofs.lemmas.Int.{ints}
use Rattle.tb_value.specs.Promise.Datum as value
use Rattle.tb_value.specs.Promise.Kind as kind
use Rattle.tb_value.specs.Promise.Kind.{Kind}
use Rattle.tb_value.specs.Promise.Typed.{HasType}
use Rattle.tb_json.specs.Promise.Text.{is_wide}

abbrev pub IsNarrow : ℤ → Type 0
IsNarrow z = (negsuc 9223372036854775807 ≤ℤ z) × (z ≤ℤ pos 18446744073709551615)

signed : (a b : ℕ) (z : ℤ) → a ≤ 9223372036854775807 → b ≤ 18446744073709551615 → (negsuc a ≤ℤ z) × (z ≤ℤ pos b) → IsNarrow z
signed a b z p q h = (omega (arith, ints), omega (arith, ints))

unsigned : (b : ℕ) (z : ℤ) → b ≤ 18446744073709551615 → (pos 0 ≤ℤ z) × (z ≤ℤ pos b) → IsNarrow z
unsigned b z q h = (omega (arith, ints), omega (arith, ints))

pub narrow : (t : Kind) (z : ℤ) → is_wide t ≡ false → HasType t (value.int z) → IsNarrow z
narrow kind.null z w h = absurd h
narrow kind.boolean z w h = absurd h
narrow kind.int8 z w h = signed 127 127 z (omega arith) (omega arith) h
narrow kind.int16 z w h = signed 32767 32767 z (omega arith) (omega arith) h
narrow kind.int32 z w h = signed 2147483647 2147483647 z (omega arith) (omega arith) h
narrow kind.int64 z w h = signed 9223372036854775807 9223372036854775807 z (omega arith) (omega arith) h
narrow kind.int128 z w h = absurd (true≢false w)
narrow kind.uint8 z w h = unsigned 255 z (omega arith) h
narrow kind.uint16 z w h = unsigned 65535 z (omega arith) h
narrow kind.uint32 z w h = unsigned 4294967295 z (omega arith) h
narrow kind.uint64 z w h = unsigned 18446744073709551615 z (omega arith) h
narrow kind.string z w h = absurd h
narrow kind.binary z w h = absurd h
narrow kind.date z w h = signed 2147483647 2147483647 z (omega arith) (omega arith) h
narrow kind.time z w h = signed 9223372036854775807 9223372036854775807 z (omega arith) (omega arith) h
narrow (kind.datetime u y) z w h = signed 9223372036854775807 9223372036854775807 z (omega arith) (omega arith) h
narrow (kind.duration u) z w h = signed 9223372036854775807 9223372036854775807 z (omega arith) (omega arith) h
narrow (kind.list t) z w h = absurd h
narrow (kind.struct ps) z w h = absurd h
