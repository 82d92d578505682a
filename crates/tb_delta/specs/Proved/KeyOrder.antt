-- Keys stand in a total order, in which those tie that are the same.
use Rattle.std.proofs.Common.{◌≡◌, ◌∙◌, true, refl, ap}
use Rattle.std.specs.Cmp.{IsTotalOrder, Equal-is, both_ways}
use Rattle.std.specs.Ordering.{ordering_reverse}
use Rattle.std.specs.declared.cmp.Ordering.{Ordering}
use Rattle.std.specs.declared.cmp.Ordering.TheVariants.{Less, Equal, Greater}
use Rattle.tb_value.specs.Promise.Datum.{Datum}
use Rattle.tb_value.specs.Promise.Same.{same}
use Rattle.tb_value.specs.Proved.ValueTests.{same-Decides}
use Rattle.tb_rows.specs.Order.{value_cmp}
use Rattle.tb_rows.proofs.Orders.{value_tie, value_total}
use Rattle.tb_delta.specs.Keys.{ties}

mirrored : (o : Ordering) → o ≡ ordering_reverse o → o ≡ Equal
mirrored Less e = absurd (cc)
mirrored Equal e = refl
mirrored Greater e = absurd (cc)

tied : (a b : Datum) → a ≡ b → value_cmp a b ≡ Equal
tied a b e = ap (λ d. value_cmp d b) e ∙ mirrored (value_cmp b b) (value_total.antisymm b b)

pub same-ties : (a b : Datum) → same a b ≡ ties a b
same-ties a b = both_ways (same a b) (ties a b)
    (λ h. (Equal-is (value_cmp a b)).1 (tied a b ((same-Decides a b).0 h)))
    (λ h. (same-Decides a b).1 (value_tie a b ((Equal-is (value_cmp a b)).0 h)))

pub ties-equal : (a b : Datum) → ties a b ≡ true → a ≡ b
ties-equal a b h = value_tie a b ((Equal-is (value_cmp a b)).0 h)

pub keys_total : {K : Type 0} (f : K → Datum) → IsTotalOrder (λ (x y : K). value_cmp (f x) (f y))
keys_total f = record {
  antisymm = λ x y. value_total.antisymm (f x) (f y);
  trans = λ x y z. value_total.trans (f x) (f y) (f z);
  congr = λ x y z. value_total.congr (f x) (f y) (f z);
}
