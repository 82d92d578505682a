-- Whole numbers that are kept in two parts.
use Rattle.std.specs.Prelude.{◌⊎◌, ℤ, pos, negsuc, ◌+ℤ◌, ◌*ℤ◌, ◌<ℤ◌}
use Rattle.tb_agg.specs.declared.running.Running.{Running}

-- the number that the parts make
abbrev pub sum_so_far : Running → ℤ
sum_so_far r = (r.wraps *ℤ pos 340282366920938463463374607431768211456) +ℤ r.low

-- a number is none of 128 bits
abbrev pub NotInRange : ℤ → Type 0
NotInRange z = (z <ℤ negsuc 170141183460469231731687303715884105727)
    ⊎ (pos 170141183460469231731687303715884105727 <ℤ z)
