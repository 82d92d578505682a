-- The names in a note.
use Rattle.std.specs.Prelude.{ℕ, List, [], codes, ◌==◌, if◌then◌else◌}

-- what stands before the name at this place
abbrev pub gap : ℕ → List ℕ
gap place = if place == 0 then [] else codes ", "
