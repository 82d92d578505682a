-- Values cast to a type.
use Rattle.std.specs.Prelude.{ℤ, pos, Bool, true, false}
use Rattle.tb_value.specs.Promise.Datum.{Datum, boolean, int, string}
use Rattle.tb_value.specs.Promise.Kind.{Kind}
use Rattle.tb_label.specs.Promise.Label.{value_text}
use Rattle.tb_supertype.specs.Promise.Supertype.{class_of}
use Rattle.tb_supertype.specs.declared.class.Class.{Class}
use Rattle.tb_supertype.specs.declared.class.Class.TheVariants.{Signed, Unsigned, Text}

-- 0 or 1
abbrev pub truth_number : Bool → ℤ
truth_number false = pos 0
truth_number true = pos 1

-- a whole number or a truth value becomes its text, and a truth value its number; all else stays as it is
abbrev pub cast_to : Class → Datum → Datum
cast_to Text (boolean b) = string (value_text (boolean b))
cast_to Text (int z) = string (value_text (int z))
cast_to (Signed n) (boolean b) = int (truth_number b)
cast_to (Unsigned n) (boolean b) = int (truth_number b)
cast_to _ v = v

abbrev pub cast : Kind → Datum → Datum
cast t v = cast_to (class_of t) v
