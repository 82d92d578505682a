-- The texts of values, by which columns are named.
use Rattle.std.specs.Prelude.{◌≡◌, pos, negsuc, true, false, [], codes}
use Rattle.tb_value.specs.Promise.Datum.{null, boolean, int, string}
use Rattle.tb_label.specs.Promise.Label.{value_text}

-- each line of the table of texts, and the ends of the numbers of 128 bits
abbrev pub Texts : Type 0
Texts = (value_text null ≡ codes "null")
    × (value_text (boolean true) ≡ codes "true")
    × (value_text (boolean false) ≡ codes "false")
    × (value_text (int (pos 0)) ≡ codes "0")
    × (value_text (int (pos 1250)) ≡ codes "1250")
    × (value_text (int (negsuc 11)) ≡ codes "-12")
    × (value_text (int (pos 170141183460469231731687303715884105727)) ≡ codes "170141183460469231731687303715884105727")
    × (value_text (int (negsuc 170141183460469231731687303715884105727)) ≡ codes "-170141183460469231731687303715884105728")
    × (value_text (string (codes "null")) ≡ codes "null")
    × (value_text (string []) ≡ [])
