-- How the logic stores a value.
use Rattle.std.specs.Prelude.{◌≡◌, ℕ, List}
use Rattle.std.proofs.Common.{ap, arith}
use Rattle.std.specs.Coded.{Coded, coded_ℕ, coded_ℤ, coded_bool, coded_list}
use base.Stored.{Gv, gnil, gnum, gcons}
use Rattle.tb_value.specs.Promise.Datum.{Datum, Items, null, boolean, int, string, binary, list, struct, end, more}

abbrev head : Gv → Gv
head gnil = gnil
head (gnum n) = gnil
head (gcons a b) = a

abbrev tail : Gv → Gv
tail gnil = gnil
tail (gnum n) = gnil
tail (gcons a b) = b

-- the number that a code begins with
abbrev number : Gv → ℕ
number (gcons (gnum n) b) = n
number _ = 0

-- a number for the kind of value, and then what the value holds
abbrev mutual
  pub datum_code : Datum → Gv
  datum_code null = gcons (gnum 0) gnil
  datum_code (boolean b) = gcons (gnum 1) (coded_bool.code b)
  datum_code (int i) = gcons (gnum 2) (coded_ℤ.code i)
  datum_code (string s) = gcons (gnum 3) ((coded_list coded_ℕ).code s)
  datum_code (binary s) = gcons (gnum 4) ((coded_list coded_ℕ).code s)
  datum_code (list vs) = gcons (gnum 5) (items_code vs)
  datum_code (struct vs) = gcons (gnum 6) (items_code vs)

  pub items_code : Items → Gv
  items_code end = gnil
  items_code (more v vs) = gcons (datum_code v) (items_code vs)

mutual
  pub datum_inj : (x y : Datum) → datum_code x ≡ datum_code y → x ≡ y
  datum_inj null null p = λ i. null
  datum_inj (boolean a) (boolean b) p = λ i. boolean (coded_bool.inj a b (ap (λ g. tail g) p) i)
  datum_inj (int a) (int b) p = λ i. int (coded_ℤ.inj a b (ap (λ g. tail g) p) i)
  datum_inj (string a) (string b) p =
      λ i. string ((coded_list coded_ℕ).inj a b (ap (λ g. tail g) p) i)
  datum_inj (binary a) (binary b) p =
      λ i. binary ((coded_list coded_ℕ).inj a b (ap (λ g. tail g) p) i)
  datum_inj (list a) (list b) p = λ i. list (items_inj a b (ap (λ g. tail g) p) i)
  datum_inj (struct a) (struct b) p = λ i. struct (items_inj a b (ap (λ g. tail g) p) i)
  datum_inj _ _ p = absurd (omega (arith, ap number p))

  pub items_inj : (x y : Items) → items_code x ≡ items_code y → x ≡ y
  items_inj end end p = λ i. end
  items_inj (more a xs) (more b ys) p =
      λ i. more (datum_inj a b (ap (λ g. head g) p) i) (items_inj xs ys (ap (λ g. tail g) p) i)
  items_inj _ _ p = absurd (cc)

abbrev pub coded_datum : Coded Datum
coded_datum = record { code = datum_code; inj = datum_inj }

abbrev pub coded_data : Coded (List Datum)
coded_data = coded_list coded_datum
