-- Equal codes are equal keys.
use Rattle.std.specs.Prelude.{◌≡◌, ◌<◌, ◌%◌, ◌^◌, ℕ, IsTrue, nat_eq}
use Rattle.std.proofs.Common.{ap, arith, eqb-true}
use Rattle.tb_group.specs.Codes.{own_code}
use Rattle.tb_group.specs.declared.codes.Code.{Code}

pub codes_agree : (x y : Code) → IsTrue (nat_eq x.code y.code) → own_code x ≡ own_code y
codes_agree x y h = ap (λ (n : ℕ). n % 2 ^ 64) (eqb-true x.code y.code h)

pub code_fits : (x : Code) → own_code x < 2 ^ 64
code_fits x = omega arith
