-- Truth values that are false.
use Rattle.std.proofs.Common.{◌≡◌, Bool, false, refl, true}
use Rattle.std.specs.Prelude.{◌||◌}

pub or_parts : (a b : Bool) → (a || b) ≡ false → (a ≡ false) × (b ≡ false)
or_parts true b h = cc h
or_parts false b h = (refl, h)

pub not_true : (b : Bool) → (b ≡ true → ⊥) → b ≡ false
not_true true h = absurd (h refl)
not_true false h = refl
