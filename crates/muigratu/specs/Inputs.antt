-- Files that are standard input.
use Rattle.std.specs.Prelude.{ℕ, Bool, List, codes}
use Rattle.std.specs.Str.{bytes_eq}

abbrev pub is_input : List ℕ → Bool
is_input file = bytes_eq file (codes "-")
