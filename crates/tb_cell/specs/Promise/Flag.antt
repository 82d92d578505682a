-- When the flag of a column is true of its values.
use Rattle.std.specs.Prelude.{List, filter}
use Rattle.std.specs.Cmp.Lexicographic.{slice_cmp}
use Rattle.std.specs.Ordering.{nat_cmp, int_cmp, bool_cmp}
use Rattle.std.specs.declared.cmp.Ordering.{Ordering}
use Rattle.std.specs.declared.cmp.Ordering.TheVariants.{Equal}
use Rattle.tb_value.specs.Promise.Datum.{Datum, boolean, int, string, binary, is_null}

-- numbers as numbers, false before true, texts and bytes by their bytes
abbrev pub datum_cmp : Datum → Datum → Ordering
datum_cmp (boolean a) (boolean b) = bool_cmp a b
datum_cmp (int a) (int b) = int_cmp a b
datum_cmp (string a) (string b) = slice_cmp nat_cmp a b
datum_cmp (binary a) (binary b) = slice_cmp nat_cmp a b
datum_cmp _ _ = Equal

abbrev pub nulls : List Datum → List Datum
nulls = filter is_null
