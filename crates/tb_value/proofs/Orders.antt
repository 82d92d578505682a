-- The two orders of pairs are total, and tell different pairs apart.
use Rattle.std.proofs.Common.{◌≡◌, ℕ, ◌<◌, Option, Some, None, refl, ap}
use Rattle.std.specs.declared.cmp.Ordering.{Ordering}
use Rattle.std.specs.declared.cmp.Ordering.TheVariants.{Less, Equal, Greater}
use Rattle.std.specs.Ordering.{nat_cmp, ordering_then, ordering_reverse}
use Rattle.std.specs.Cmp.{IsTotalOrder}
use Rattle.std.proofs.lemmas.Cmp.{nat_cmp_total, on_total, then_total, ranked}
use Rattle.std.specs.Ordering.{MatchOrdering}
use Rattle.tb_value.specs.declared.index.JoinPair.{JoinPair}
use Rattle.tb_value.specs.Promise.Pairs.{row_cmp, left_first, right_first}

antisymm : (x y : Option ℕ) → row_cmp x y ≡ ordering_reverse (row_cmp y x)
antisymm None None = refl
antisymm None (Some j) = refl
antisymm (Some i) None = refl
antisymm (Some i) (Some j) = nat_cmp_total.antisymm i j

trans : (x y z : Option ℕ) → row_cmp x y ≡ Less → row_cmp y z ≡ Less → row_cmp x z ≡ Less
trans None None z h k = cc
trans None (Some j) z h k = cc
trans (Some i) None None h k = refl
trans (Some i) None (Some m) h k = cc
trans (Some i) (Some j) None h k = refl
trans (Some i) (Some j) (Some m) h k = nat_cmp_total.trans i j m h k

congr : (x y z : Option ℕ) → row_cmp x y ≡ Equal → row_cmp x z ≡ row_cmp y z
congr None None z h = refl
congr None (Some j) z h = cc
congr (Some i) None z h = cc
congr (Some i) (Some j) None h = refl
congr (Some i) (Some j) (Some m) h = nat_cmp_total.congr i j m h

pub row_cmp_total : IsTotalOrder row_cmp
row_cmp_total = record { antisymm = antisymm; trans = trans; congr = congr }

pub left_first_total : IsTotalOrder left_first
left_first_total = then_total (on_total (λ (p : JoinPair). p.left) row_cmp_total) (on_total (λ (p : JoinPair). p.right) row_cmp_total)

pub right_first_total : IsTotalOrder right_first
right_first_total = then_total (on_total (λ (p : JoinPair). p.right) row_cmp_total) (on_total (λ (p : JoinPair). p.left) row_cmp_total)

nat_same : (i j : ℕ) → nat_cmp i j ≡ Equal → i ≡ j
nat_same i j h = let r : MatchOrdering (nat_cmp i j) (i < j) (i ≡ j) (j < i) = ranked i j (nat_cmp i j) refl in rw h at r

pub row_same : (x y : Option ℕ) → row_cmp x y ≡ Equal → x ≡ y
row_same None None h = refl
row_same None (Some j) h = cc
row_same (Some i) None h = cc
row_same (Some i) (Some j) h = ap (λ (n : ℕ). Some n) (nat_same i j h)

-- both parts of two orders in a row tie
then_both : (a b : Ordering) → ordering_then a b ≡ Equal → (a ≡ Equal) × (b ≡ Equal)
then_both Less b h = cc
then_both Equal b h = (refl, h)
then_both Greater b h = cc

same_parts : (p q : JoinPair) → p.left ≡ q.left → p.right ≡ q.right → p ≡ q
same_parts p q a b = λ i. record { left = a i; right = b i }

pub left_first_same : (p q : JoinPair) → left_first p q ≡ Equal → p ≡ q
left_first_same p q h = let both = then_both (row_cmp p.left q.left) (row_cmp p.right q.right) h in same_parts p q (row_same p.left q.left both.0) (row_same p.right q.right both.1)

pub right_first_same : (p q : JoinPair) → right_first p q ≡ Equal → p ≡ q
right_first_same p q h = let both = then_both (row_cmp p.right q.right) (row_cmp p.left q.left) h in same_parts p q (row_same p.left q.left both.1) (row_same p.right q.right both.0)
