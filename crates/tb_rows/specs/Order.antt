-- An order of values: by their kinds, and then by what they hold. Only equal values tie.
use Rattle.std.specs.Prelude.{ℕ}
use Rattle.std.specs.Cmp.Lexicographic.{slice_cmp}
use Rattle.std.specs.Ordering.{bool_cmp, int_cmp, nat_cmp, ordering_then}
use Rattle.std.specs.declared.cmp.Ordering.{Ordering}
use Rattle.std.specs.declared.cmp.Ordering.TheVariants.{Less, Equal, Greater}
use Rattle.tb_value.specs.Promise.Datum.{Datum, Items, null, boolean, int, string, binary, list, struct, end, more}

-- the place of a kind among the kinds
abbrev pub kind_number : Datum → ℕ
kind_number null = 0
kind_number (boolean b) = 1
kind_number (int i) = 2
kind_number (string s) = 3
kind_number (binary s) = 4
kind_number (list vs) = 5
kind_number (struct vs) = 6

abbrev mutual
  pub value_cmp : Datum → Datum → Ordering
  value_cmp null null = Equal
  value_cmp (boolean a) (boolean b) = bool_cmp a b
  value_cmp (int a) (int b) = int_cmp a b
  value_cmp (string a) (string b) = slice_cmp nat_cmp a b
  value_cmp (binary a) (binary b) = slice_cmp nat_cmp a b
  value_cmp (list a) (list b) = items_cmp a b
  value_cmp (struct a) (struct b) = items_cmp a b
  value_cmp a b = nat_cmp (kind_number a) (kind_number b)

  pub items_cmp : Items → Items → Ordering
  items_cmp end end = Equal
  items_cmp end (more b ys) = Less
  items_cmp (more a xs) end = Greater
  items_cmp (more a xs) (more b ys) = ordering_then (value_cmp a b) (items_cmp xs ys)
