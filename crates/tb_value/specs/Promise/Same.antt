-- Whether two values are the same, and whether two fields of keys agree.
use Rattle.std.specs.Prelude.{Bool, true, false, ◌&&◌, ◌||◌}
use Rattle.std.specs.Ordering.{int_eq}
use Rattle.std.proofs.Math.Bool.{beq}
use Rattle.std.specs.Str.{bytes_eq}
use Rattle.tb_value.specs.Promise.Datum.{Datum, Items, null, boolean, int, string, binary, list, struct, end, more, is_null, is_present}

-- the same kind of value, and the same in it
abbrev mutual
  pub same : Datum → Datum → Bool
  same null null = true
  same (boolean a) (boolean b) = beq a b
  same (int a) (int b) = int_eq a b
  same (string a) (string b) = bytes_eq a b
  same (binary a) (binary b) = bytes_eq a b
  same (list a) (list b) = same_items a b
  same (struct a) (struct b) = same_items a b
  same _ _ = false

  pub same_items : Items → Items → Bool
  same_items end end = true
  same_items (more a xs) (more b ys) = same a b && same_items xs ys
  same_items _ _ = false

-- two fields are present and equal, or both are Null and Nulls match
abbrev pub agrees : Bool → Datum → Datum → Bool
agrees null_matches a b =
    (is_present a && is_present b && same a b) || (is_null a && is_null b && null_matches)
