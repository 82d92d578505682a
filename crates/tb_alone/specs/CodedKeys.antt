-- The bytes of keys, behind their codes.
use Rattle.std.specs.Prelude.{◌≡◌, ◌&&◌, ℕ, Bool, true, false, IsTrue, List, nat_eq}
use Rattle.std.specs.Cmp.Lexicographic.{pointwise}
use Rattle.tb_build.specs.Promise.Codes.{fnv1a}
use Rattle.tb_build.specs.CodeLaws.{bytes_agree}

-- equal keys have equal codes
pub coded_agree : (a b : ℕ) (xs ys : List ℕ) → IsTrue (nat_eq a b && pointwise nat_eq xs ys)
    → fnv1a xs ≡ fnv1a ys
coded_agree a b xs ys h = both (nat_eq a b) h
  where
    both : (c : Bool) → IsTrue (c && pointwise nat_eq xs ys) → fnv1a xs ≡ fnv1a ys
    both true h = bytes_agree xs ys h
    both false h = cc
