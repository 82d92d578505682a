-- Numbers that are never negative stand to each other as the whole numbers that they are.
use Rattle.std.specs.Prelude.{◌≡◌, ◌<◌, ◌<ℤ◌, ℕ, pos, refl}
use Rattle.std.specs.Cmp.{int_cmp_is, ranked}
use Rattle.std.specs.Ordering.{MatchOrdering, int_cmp, nat_cmp}
use Rattle.std.specs.declared.cmp.Ordering.{Ordering}
use Rattle.std.specs.declared.cmp.Ordering.TheVariants.{Less, Equal, Greater}
use Rattle.std.proofs.Common.{ap, arith}
use Rattle.std.proofs.lemmas.Int.{ints}

as_whole : (x y : ℕ) (r : Ordering) → MatchOrdering r (x < y) (x ≡ y) (y < x)
    → MatchOrdering r (pos x <ℤ pos y) (pos x ≡ pos y) (pos y <ℤ pos x)
as_whole x y Less h = omega (arith, ints)
as_whole x y Equal h = ap pos h
as_whole x y Greater h = omega (arith, ints)

pub same_order : (x y : ℕ) → nat_cmp x y ≡ int_cmp (pos x) (pos y)
same_order x y = int_cmp_is (pos x) (pos y) (nat_cmp x y)
    (as_whole x y (nat_cmp x y) (ranked x y (nat_cmp x y) refl))
