-- The tests of values are their equality.
use Rattle.std.specs.Prelude.{◌≡◌, Bool, true, false, refl}
use Rattle.std.specs.Bool.{Decides}
use Rattle.std.specs.Cmp.{booleans_Decides, signed_Decides, IsEquivalence, first_so, second_so}
use Rattle.std.proofs.Common.{ap, sym}
use Rattle.std.proofs.lemmas.Slice.Eq.{bytes_eq-Decides}
use Rattle.tb_value.specs.Promise.Datum.{Datum, Items, null, boolean, int, string, binary, list, struct, end, more}
use Rattle.tb_value.specs.Promise.Same.{same, same_items}

mutual
  pub same-Decides : (x y : Datum) → Decides (same x y) (x ≡ y)
  same-Decides null null = (λ _. refl, λ _. refl)
  same-Decides (boolean a) (boolean b) = let d = booleans_Decides a b in
      (λ h. ap boolean (d.0 h), λ e. d.1 (cc))
  same-Decides (int a) (int b) = let d = signed_Decides a b in (λ h. ap int (d.0 h), λ e. d.1 (cc))
  same-Decides (string a) (string b) = let d = bytes_eq-Decides a b in
      (λ h. ap string (d.0 h), λ e. d.1 (cc))
  same-Decides (binary a) (binary b) = let d = bytes_eq-Decides a b in
      (λ h. ap binary (d.0 h), λ e. d.1 (cc))
  same-Decides (list a) (list b) = let d = items-Decides a b in
      (λ h. ap list (d.0 h), λ e. d.1 (cc))
  same-Decides (struct a) (struct b) = let d = items-Decides a b in
      (λ h. ap struct (d.0 h), λ e. d.1 (cc))
  same-Decides _ _ = (λ h. absurd (cc), λ e. absurd (cc))

  pub items-Decides : (x y : Items) → Decides (same_items x y) (x ≡ y)
  items-Decides end end = (λ _. refl, λ _. refl)
  items-Decides (more a xs) (more b ys) =
      let d = same-Decides a b in
      let r = items-Decides xs ys in (
        λ h.
            λ i.
            more (d.0 (first_so (same a b) (same_items xs ys) h) i)
            (r.0 (second_so (same a b) (same_items xs ys) h) i),
        λ e.
            let p : same a b ≡ true = d.1 (cc) in
            let q : same_items xs ys ≡ true = r.1 (cc) in rw p q,
      )
  items-Decides _ _ = (λ h. absurd (cc), λ e. absurd (cc))

bool_ext : (a b : Bool) → (a ≡ true → b ≡ true) → (b ≡ true → a ≡ true) → a ≡ b
bool_ext true true f g = refl
bool_ext true false f g = sym (f refl)
bool_ext false true f g = g refl
bool_ext false false f g = refl

-- a test that decides equality is an equivalence
pub from_decides : {K : Type 0} (E : K → K → Bool) → ((x y : K) → Decides (E x y) (x ≡ y))
    → IsEquivalence E
from_decides E d = record {
  refl = λ x. (d x x).1 refl;
  symm = λ x y. bool_ext (E x y) (E y x) (λ h. (d y x).1 (sym ((d x y).0 h))) (λ h. (d x y).1 (sym ((d y x).0 h)));
  congr = λ x y z h. ap (λ k. E k z) ((d x y).0 h);
}

pub pulled : {K J : Type 0} (f : K → J) {E : J → J → Bool} → IsEquivalence E
    → IsEquivalence (λ x y. E (f x) (f y))
pulled f l = record
    { refl = λ x. l.refl (f x); symm = λ x y. l.symm (f x) (f y); congr = λ x y z. l.congr (f x) (f y) (f z) }

pub same_equiv : IsEquivalence same
same_equiv = from_decides same same-Decides

pub items_equiv : IsEquivalence same_items
items_equiv = from_decides same_items items-Decides
