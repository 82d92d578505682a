-- Values stand in a total order, in which only equal ones tie.
use Rattle.std.proofs.Common.{◌≡◌, ◌∙◌, ◌<◌, ◌≤◌, ℕ, Bool, true, false, refl, sym, ap, arith, ◌-◌, ◌⊎◌, zero, suc, List, [], ◌∷◌, length, get_or}
use Rattle.std.specs.Cmp.{IsTotalOrder, bool_cmp_total, nat_cmp_is}
use Rattle.std.specs.FinMap.{int_cmp-IsAntisymmetric, nat_cmp-IsAntisymmetric, slice_cmp-IsAntisymmetric}
use Rattle.std.specs.Ordering.{bool_cmp, nat_cmp, ordering_reverse, ordering_then}
use Rattle.std.specs.declared.cmp.Ordering.{Ordering}
use Rattle.std.specs.declared.cmp.Ordering.TheVariants.{Less, Equal, Greater}
use Rattle.std.proofs.lemmas.Cmp.{int_cmp_total, nat_list_cmp_total, ranked}
use Rattle.tb_value.specs.Promise.Datum.{Datum, Items, null, boolean, int, string, binary, list, struct, end, more, items_of, weight, weights}
use Rattle.tb_rows.specs.Order.{items_cmp, kind_number, value_cmp}

then_back : (o p q r : Ordering) → o ≡ ordering_reverse p → q ≡ ordering_reverse r → ordering_then o q ≡ ordering_reverse (ordering_then p r)
then_back o Less q r e f = ap (λ k. ordering_then k q) e
then_back o Equal q r e f = ap (λ k. ordering_then k q) e ∙ f
then_back o Greater q r e f = ap (λ k. ordering_then k q) e

pub then_tie : (o p : Ordering) → ordering_then o p ≡ Equal → (o ≡ Equal) × (p ≡ Equal)
then_tie Less p e = absurd (cc)
then_tie Equal p e = (refl, e)
then_tie Greater p e = absurd (cc)

less_than : (a b : ℕ) → nat_cmp a b ≡ Less → a < b
less_than a b h = ranked a b Less (sym h)

bools_tie : (a b : Bool) → bool_cmp a b ≡ Equal → a ≡ b
bools_tie true true e = refl
bools_tie false false e = refl
bools_tie true false e = absurd (cc)
bools_tie false true e = absurd (cc)

mutual
  pub value_tie : (x y : Datum) → value_cmp x y ≡ Equal → x ≡ y
  value_tie null null e = refl
  value_tie (boolean a) (boolean b) e = ap boolean (bools_tie a b e)
  value_tie (int a) (int b) e = ap int (int_cmp-IsAntisymmetric a b e)
  value_tie (string a) (string b) e = ap string (slice_cmp-IsAntisymmetric nat_cmp-IsAntisymmetric a b e)
  value_tie (binary a) (binary b) e = ap binary (slice_cmp-IsAntisymmetric nat_cmp-IsAntisymmetric a b e)
  value_tie (list a) (list b) e = ap list (items_tie a b e)
  value_tie (struct a) (struct b) e = ap struct (items_tie a b e)
  value_tie _ _ e = absurd (cc)

  items_tie : (xs ys : Items) → items_cmp xs ys ≡ Equal → xs ≡ ys
  items_tie end end e = refl
  items_tie (more a xs) (more b ys) e = let both = then_tie (value_cmp a b) (items_cmp xs ys) e in λ t. more (value_tie a b both.0 t) (items_tie xs ys both.1 t)
  items_tie _ _ e = absurd (cc)

mutual
  value_back : (x y : Datum) → value_cmp x y ≡ ordering_reverse (value_cmp y x)
  value_back null null = refl
  value_back (boolean a) (boolean b) = bool_cmp_total.antisymm a b
  value_back (int a) (int b) = int_cmp_total.antisymm a b
  value_back (string a) (string b) = nat_list_cmp_total.antisymm a b
  value_back (binary a) (binary b) = nat_list_cmp_total.antisymm a b
  value_back (list a) (list b) = items_back a b
  value_back (struct a) (struct b) = items_back a b
  value_back _ _ = refl

  items_back : (xs ys : Items) → items_cmp xs ys ≡ ordering_reverse (items_cmp ys xs)
  items_back end end = refl
  items_back (more a xs) (more b ys) = then_back (value_cmp a b) (value_cmp b a) (items_cmp xs ys) (items_cmp ys xs) (value_back a b) (items_back xs ys)
  items_back _ _ = refl

-- of three lists the first values, where the first decides, and else the rest
then_chain : (a b c : Datum) (o p q : Ordering) → (value_cmp a b ≡ Less → value_cmp b c ≡ Less → value_cmp a c ≡ Less) → (o ≡ Less → p ≡ Less → q ≡ Less)
    → ordering_then (value_cmp a b) o ≡ Less → ordering_then (value_cmp b c) p ≡ Less → ordering_then (value_cmp a c) q ≡ Less
then_chain a b c o p q first rest = by (value_cmp a b) refl (value_cmp b c) refl
  where
    by : (u : Ordering) → value_cmp a b ≡ u → (v : Ordering) → value_cmp b c ≡ v → ordering_then u o ≡ Less → ordering_then v p ≡ Less
        → ordering_then (value_cmp a c) q ≡ Less
    by Less e Less f h k = ap (λ r. ordering_then r q) (first e f)
    by Less e Equal f h k = ap (λ r. ordering_then r q) (ap (λ v. value_cmp a v) (sym (value_tie b c f)) ∙ e)
    by Equal e Less f h k = ap (λ r. ordering_then r q) (ap (λ v. value_cmp v c) (value_tie a b e) ∙ f)
    by Equal e Equal f h k = ap (λ r. ordering_then r q) (ap (λ v. value_cmp v c) (value_tie a b e) ∙ f) ∙ rest h k
    by Greater e v f h k = absurd (cc)
    by Less e Greater f h k = absurd (cc)
    by Equal e Greater f h k = absurd (cc)

-- a lower kind is less, and what is less is of no higher kind
lower : (x y : Datum) → kind_number x < kind_number y → value_cmp x y ≡ Less
lower null null l = absurd (omega (arith, l))
lower (boolean a) (boolean b) l = absurd (omega (arith, l))
lower (int a) (int b) l = absurd (omega (arith, l))
lower (string a) (string b) l = absurd (omega (arith, l))
lower (binary a) (binary b) l = absurd (omega (arith, l))
lower (list a) (list b) l = absurd (omega (arith, l))
lower (struct a) (struct b) l = absurd (omega (arith, l))
lower x y l = sym (nat_cmp_is (kind_number x) (kind_number y) Less l)

no_higher : (x y : Datum) → value_cmp x y ≡ Less → kind_number x ≤ kind_number y
no_higher null null h = omega arith
no_higher (boolean a) (boolean b) h = omega arith
no_higher (int a) (int b) h = omega arith
no_higher (string a) (string b) h = omega arith
no_higher (binary a) (binary b) h = omega arith
no_higher (list a) (list b) h = omega arith
no_higher (struct a) (struct b) h = omega arith
no_higher x y h = omega (arith, less_than (kind_number x) (kind_number y) h)

mutual
  value_chain : (x y z : Datum) → value_cmp x y ≡ Less → value_cmp y z ≡ Less → value_cmp x z ≡ Less
  value_chain null null null h k = h
  value_chain (boolean a) (boolean b) (boolean c) h k = bool_cmp_total.trans a b c h k
  value_chain (int a) (int b) (int c) h k = int_cmp_total.trans a b c h k
  value_chain (string a) (string b) (string c) h k = nat_list_cmp_total.trans a b c h k
  value_chain (binary a) (binary b) (binary c) h k = nat_list_cmp_total.trans a b c h k
  value_chain (list a) (list b) (list c) h k = items_chain a b c h k
  value_chain (struct a) (struct b) (struct c) h k = items_chain a b c h k
  value_chain x y z h k = lower x z (omega (arith, no_higher x y h, no_higher y z k))

  items_chain : (xs ys zs : Items) → items_cmp xs ys ≡ Less → items_cmp ys zs ≡ Less → items_cmp xs zs ≡ Less
  items_chain end (more b ys) (more c zs) h k = refl
  items_chain (more a xs) (more b ys) (more c zs) h k =
      then_chain a b c (items_cmp xs ys) (items_cmp ys zs) (items_cmp xs zs) (value_chain a b c) (items_chain xs ys zs) h k
  items_chain _ _ _ h k = absurd (cc)

pub value_total : IsTotalOrder value_cmp
value_total = record {
  antisymm = value_back;
  trans = value_chain;
  congr = λ x y z e. ap (λ v. value_cmp v z) (value_tie x y e);
}

-- lists that tie up to the end of one compare as their lengths
pub ends : (us vs : List Datum) (m n k : ℕ) → k ≤ m → k ≤ n → (m ≤ k) ⊎ (n ≤ k) → length us ≡ m - k → length vs ≡ n - k
    → items_cmp (items_of us) (items_of vs) ≡ nat_cmp m n
ends [] [] m n k a b c d e = nat_cmp_is m n Equal (omega (arith, a, b, d, e))
ends [] (v ∷ vs) m n k a b c d e = nat_cmp_is m n Less (omega (arith, a, b, d, e))
ends (u ∷ us) [] m n k a b c d e = nat_cmp_is m n Greater (omega (arith, a, b, d, e))
ends (u ∷ us) (v ∷ vs) m n k a b c d e = absurd (omega (arith, a, b, c, d, e))

-- a value weighs no more than the list that it stands in
pub light : (vs : List Datum) (i : ℕ) (v d : Datum) → i < length vs → v ≡ get_or vs i d → weight v ≤ weights (items_of vs)
light [] i v d h e = absurd (omega arith)
light (w ∷ vs) zero v d h e = let f : weight v ≡ weight w = ap weight e in omega arith
light (w ∷ vs) (suc i) v d h e = omega (arith, light vs i v d (omega arith) e)
