-- Numbers in the range of a type.
use Rattle.std.proofs.Common.{◌≡◌, ◌≤ℤ◌, ◌&&◌, ℤ, Bool, true, false, List, [], ◌∷◌, map, Option, Some, None, IsSomeAnd, refl, arith}
use Rattle.std.specs.List.{All, list_all}
use Rattle.std.proofs.lemmas.Int.{ints}
use Rattle.std.proofs.lemmas.List.Elements.{All-cons, All-nil}
use Rattle.tb_value.specs.Promise.Datum.{int}
use Rattle.tb_value.specs.Promise.Kind.{Kind}
use Rattle.tb_value.specs.Promise.Typed.{HasType, ends}
use Rattle.tb_agg.specs.Promise.Outcome.{lies_within}

typed_by : (o : Option (ℤ × ℤ)) (z : ℤ) → lies_within o z ≡ true → IsSomeAnd o (λ e. (e.0 ≤ℤ z) × (z ≤ℤ e.1))
typed_by None z h = absurd (cc)
typed_by (Some (a, b)) z h = (grind (arith, ints), grind (arith, ints))

-- numbers in the range of a type are values of it
pub typed_all : (t : Kind) (zs : List ℤ) → list_all (lies_within (ends t)) zs ≡ true → All (HasType t) (map int zs)
typed_all t [] h = All-nil (HasType t)
typed_all t (z ∷ zs) h = by (lies_within (ends t) z) refl h (typed_all t zs)
  where
    by : (b : Bool) → lies_within (ends t) z ≡ b → (b && list_all (lies_within (ends t)) zs) ≡ true → (list_all (lies_within (ends t)) zs ≡ true → All (HasType t) (map int zs)) → All (HasType t) (map int (z ∷ zs))
    by true e rest all = All-cons (HasType t) (int z) (map int zs) (typed_by (ends t) z e) (all rest)
    by false e rest all = absurd (cc)
