-- A whole number modulo 2 ^ 128, and then modulo 2 ^ 64.
use Rattle.std.proofs.Common.{◌≡◌, ◌%◌, ◌^◌, ℤ, pos, negsuc, arith}
use Rattle.tb_build.specs.Promise.Codes.{modulo}

pub low_half : (z : ℤ) → modulo z (2 ^ 128) % 2 ^ 64 ≡ modulo z (2 ^ 64)
low_half (pos a) = omega arith
low_half (negsuc a) = omega arith
