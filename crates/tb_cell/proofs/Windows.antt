-- Where parts of lists start and stop.
use Rattle.std.proofs.Common.{arith, ◌≡◌, ℕ, ◌+◌, ◌-◌, ◌<◌, nat_lt, ◌+ℤ◌, ℤ, pos, negsuc}
use Rattle.std.specs.Prelude.{nat_le, ◌&&◌, int_lt, int_le}
use Rattle.std.proofs.lemmas.Int.{ints}
use Rattle.std.proofs.lemmas.Bool.Decides.{nat_tests}
use Rattle.tb_cell.specs.Window.{clamped_place}

-- a place is in the part if it is not before its start s, and before its end
pub in_part : (n len p : ℕ) (s : ℤ) → p < n → (int_le s (pos p) && int_lt (pos p) (s +ℤ pos len)) ≡ (nat_le (clamped_place n s) p && nat_lt p (clamped_place n s + (clamped_place n (s +ℤ pos len) - clamped_place n s)))
in_part n len p (pos s) h = grind (arith, ints, nat_tests)
in_part n len p (negsuc s) h = grind (arith, ints, nat_tests)
