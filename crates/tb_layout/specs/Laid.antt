-- Lines, one below the other.
use Rattle.std.specs.Prelude.{ℕ, List, [], ◌∷◌, ◌++◌, encode_utf8_all}
use Rattle.std.specs.List.{flat_map}
use Rattle.tb_frame.specs.Promise.Table.{Table}
use Rattle.tb_layout.specs.Promise.Characters.{cut, trimmed_text}
use Rattle.tb_layout.specs.Promise.Lines.{cell_in, dashes_in, name_in, side_by_side}

-- lines, each ended by a line feed
abbrev pub ended : List (List ℕ) → List ℕ
ended ls = flat_map (λ l. l ++ 10 ∷ []) ls

-- a line as it stands in the text
abbrev pub ended_line : ℕ → List ℕ → List ℕ
ended_line line l = trimmed_text (cut line l) ++ 10 ∷ []

-- the lines of the names and of the dashes
abbrev pub head_text : ℕ → Table → List ℕ
head_text line t =
    ended_line line (side_by_side (name_in line) t)
    ++ ended_line line (side_by_side (dashes_in line) t)

-- the line of a row, in bytes
abbrev pub row_bytes : ℕ → Table → ℕ → List ℕ
row_bytes line t i = encode_utf8_all (ended_line line (side_by_side (cell_in line i) t))
