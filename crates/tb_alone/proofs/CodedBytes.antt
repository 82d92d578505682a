-- Keys behind their codes.
use Rattle.std.proofs.Common.{◌≡◌, ◌&&◌, ℕ, Bool, true, false, List, refl, ap, sym, ◌∙◌, eq-eqb}
use Rattle.std.specs.Prelude.{nat_eq}
use Rattle.std.specs.Cmp.Lexicographic.{pointwise, bytes_decides}
use Rattle.std.proofs.lemmas.Bool.{and_from}
use Rattle.tb_build.specs.Promise.Codes.{fnv1a}
use Rattle.tb_build.specs.CodeLaws.{bytes_agree}
use Rattle.tb_alone.specs.Keys.{same_key}
use Rattle.tb_alone.specs.declared.coded.CodedKey.{CodedKey}

-- keys of the same bytes are the same
pub coded_same : (xs ys : List ℕ) → (nat_eq (fnv1a xs) (fnv1a ys) && pointwise nat_eq xs ys) ≡ pointwise nat_eq xs ys
coded_same xs ys = by (pointwise nat_eq xs ys) refl
  where
    none : (a : Bool) → (a && false) ≡ false
    none true = refl
    none false = refl

    by : (b : Bool) → pointwise nat_eq xs ys ≡ b → (nat_eq (fnv1a xs) (fnv1a ys) && pointwise nat_eq xs ys) ≡ pointwise nat_eq xs ys
    by true e = ap (λ (a : Bool). a && pointwise nat_eq xs ys) (eq-eqb (fnv1a xs) (fnv1a ys) (bytes_agree xs ys e))
    by false e = ap (λ (b : Bool). nat_eq (fnv1a xs) (fnv1a ys) && b) e ∙ none (nat_eq (fnv1a xs) (fnv1a ys)) ∙ sym e

-- a key of these bytes, behind their code, is the same as any other
pub is_coded : (x y : CodedKey) → x.code ≡ y.code → x.key.bytes.now ≡ y.key.bytes.now → same_key x y ≡ true
is_coded x y code bytes = and_from (nat_eq x.code y.code) (pointwise nat_eq x.key.bytes.now y.key.bytes.now) (eq-eqb x.code y.code code) ((bytes_decides x.key.bytes.now y.key.bytes.now).1 bytes)
