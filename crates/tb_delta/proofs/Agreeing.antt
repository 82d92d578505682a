-- Whether two fields agree, by the test of grouped keys and by equality.
use Rattle.std.proofs.Common.{◌≡◌, Bool, true, false, not, ◌&&◌, ◌||◌, refl, ap, ◌∙◌}
use Rattle.tb_value.specs.Promise.Datum.{Datum, null, boolean, int, string, binary, list, struct, is_null, is_present}
use Rattle.tb_value.specs.Promise.Same.{agrees, same}
use Rattle.tb_value.specs.Proved.ValueTests.{same_equiv}
use Rattle.tb_delta.specs.Inside.{is_grouped}
use Rattle.tb_delta.specs.Keys.{ties}
use Rattle.tb_delta.specs.Proved.KeyOrder.{same-ties}

same_null : (b : Datum) → same null b ≡ is_null b
same_null null = refl
same_null (boolean _) = refl
same_null (int _) = refl
same_null (string _) = refl
same_null (binary _) = refl
same_null (list _) = refl
same_null (struct _) = refl

null_same : (a : Datum) → same a null ≡ is_null a
null_same null = refl
null_same (boolean _) = refl
null_same (int _) = refl
null_same (string _) = refl
null_same (binary _) = refl
null_same (list _) = refl
null_same (struct _) = refl

same_at_null : (a b : Datum) → is_null a ≡ true → same a b ≡ is_null b
same_at_null null b e = same_null b
same_at_null (boolean _) b e = absurd (cc)
same_at_null (int _) b e = absurd (cc)
same_at_null (string _) b e = absurd (cc)
same_at_null (binary _) b e = absurd (cc)
same_at_null (list _) b e = absurd (cc)
same_at_null (struct _) b e = absurd (cc)

same_by_null : (a b : Datum) → is_null b ≡ true → same a b ≡ is_null a
same_by_null a null e = null_same a
same_by_null a (boolean _) e = absurd (cc)
same_by_null a (int _) e = absurd (cc)
same_by_null a (string _) e = absurd (cc)
same_by_null a (binary _) e = absurd (cc)
same_by_null a (list _) e = absurd (cc)
same_by_null a (struct _) e = absurd (cc)

table : (na nb s nulls : Bool) → (na ≡ true → s ≡ nb) → (nb ≡ true → s ≡ na)
    → ((not na && not nb && s) || (na && nb && nulls)) ≡ ((nulls || not na) && s)
table true true true true h k = refl
table true true true false h k = refl
table true true false nulls h k = let e : false ≡ true = h refl in absurd (cc)
table true false true nulls h k = let e : true ≡ false = h refl in absurd (cc)
table true false false true h k = refl
table true false false false h k = refl
table false true true nulls h k = let e : true ≡ false = k refl in absurd (cc)
table false true false true h k = refl
table false true false false h k = refl
table false false true true h k = refl
table false false true false h k = refl
table false false false true h k = refl
table false false false false h k = refl

agrees-is : (nulls : Bool) (a b : Datum) → agrees nulls a b ≡ (is_grouped nulls a && same a b)
agrees-is nulls a b = table (is_null a) (is_null b) (same a b) nulls (same_at_null a b) (same_by_null a b)

pub agrees-ties : (nulls : Bool) (a b : Datum) → agrees nulls a b ≡ (is_grouped nulls a && ties a b)
agrees-ties nulls a b = agrees-is nulls a b ∙ ap (λ t. is_grouped nulls a && t) (same-ties a b)

turned : (x y s n : Bool) → ((not x && not y && s) || (x && y && n)) ≡ ((not y && not x && s) || (y && x && n))
turned true true s n = refl
turned true false s n = refl
turned false true s n = refl
turned false false s n = refl

-- it doesn't matter which field is named first
pub agrees-turned : (nulls : Bool) (a b : Datum) → agrees nulls a b ≡ agrees nulls b a
agrees-turned nulls a b =
    ap (λ t. (is_present a && is_present b && t) || (is_null a && is_null b && nulls)) (same_equiv.symm a b)
    ∙ turned (is_null a) (is_null b) (same b a) nulls
