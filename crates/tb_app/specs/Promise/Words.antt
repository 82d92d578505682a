-- The words that the program is given.
use Rattle.std.specs.Prelude.{ℕ, List, [], if◌then◌else◌}
use Rattle.std.specs.Str.{is_utf8}

-- a word that is given: the empty text stands for bytes that are no text
abbrev pub word_from : List ℕ → List ℕ
word_from bytes = if is_utf8 bytes then bytes else []
