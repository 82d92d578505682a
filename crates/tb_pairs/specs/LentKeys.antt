-- The keys of rows as they are lent.
use Rattle.std.specs.Prelude.{ℕ, List, map, Option, Some, None}
use Rattle.tb_build.specs.declared.keys.KeyBytes.{KeyBytes}

-- a key with these bytes, wherever they lie
abbrev pub lent_key : Option (List ℕ) → Option KeyBytes
lent_key None = None
lent_key (Some bytes) = Some (record { bytes = record { ref_ptr = (0, 0); now = bytes } })

abbrev pub lent_list : List (Option (List ℕ)) → List (Option KeyBytes)
lent_list keys = map lent_key keys
