-- Keys match whichever comes first.
use Rattle.std.proofs.Common.{◌≡◌, Bool, Option, Some, None, refl}
use Rattle.std.specs.Cmp.{IsEquivalence}
use Rattle.tb_build.specs.Keys.{keys_match}

pub match-turned : {K : Type 0} (eq : K → K → Bool) → IsEquivalence eq → (nulls : Bool) (x y : Option K) → keys_match eq nulls x y ≡ keys_match eq nulls y x
match-turned eq laws nulls (Some x) (Some y) = laws.symm x y
match-turned eq laws nulls (Some x) None = refl
match-turned eq laws nulls None (Some y) = refl
match-turned eq laws nulls None None = refl
