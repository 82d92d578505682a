-- The fields of two structs, as lists.
use Rattle.std.proofs.Common.{◌≡◌, ◌≤◌, ◌<◌, ℕ, zero, suc, false, ◌&&◌, List, [], ◌∷◌, length, get_or, refl, ap, arith}
use Rattle.tb_value.specs.Promise.Kind.{Part, weight, weights, parts_of}
use Rattle.tb_value.specs.Promise.Names.{same_name}
use Rattle.tb_value.specs.Promise.SameKind.{same_kind, same_parts}
use Rattle.tb_value.proofs.Lengths.{false_and}

-- no field's type is heavier than all of them
pub weight_at : (ps : List Part) (i : ℕ) (p : Part) → i < length ps → p ≡ get_or ps i p → weight p.1 ≤ weights (parts_of ps)
weight_at [] i p h e = absurd (omega arith)
weight_at (q ∷ ps) zero p h e = let f : weight p.1 ≡ weight q.1 = ap (λ r. weight r.1) e in omega arith
weight_at (q ∷ ps) (suc i) p h e = omega (arith, weight_at ps i p (omega arith) e)

-- lists of different lengths are not the same
pub parts_differ : (ps qs : List Part) → (length ps ≡ length qs → ⊥) → false ≡ same_parts (parts_of ps) (parts_of qs)
parts_differ [] [] h = absurd (h refl)
parts_differ [] (q ∷ qs) h = refl
parts_differ (p ∷ ps) [] h = refl
parts_differ (p ∷ ps) (q ∷ qs) h = false_and (same_name p.0 q.0 && same_kind p.1 q.1) (same_parts (parts_of ps) (parts_of qs)) (parts_differ ps qs (λ e. h (ap (λ n. suc n) e)))
