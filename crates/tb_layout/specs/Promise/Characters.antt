-- Characters as a line of a terminal shows them.
use Rattle.std.specs.Prelude.{ℕ, ◌-◌, false, Bool, List, [], ◌∷◌, ◌==◌, chars, is_none, length, nat_le, take, unwrap_or, if◌then◌else◌}
use Rattle.std.specs.List.{flat_map, suffix_len, sum_by}
use Rattle.unicode_width.specs.Width.{char_width}

-- the columns of a terminal that a character takes; control characters take none
abbrev pub columns_of : ℕ → ℕ
columns_of c = unwrap_or (char_width false c) 0

-- the columns that characters take, side by side
abbrev pub width_of : List ℕ → ℕ
width_of cs = sum_by columns_of cs

-- a line feed, a tab and a carriage return are written \n, \t and \r, and other control characters as U+FFFD
abbrev pub visible_text : ℕ → List ℕ
visible_text c =
    if c == 10 then 92 ∷ 110 ∷ []
    else if c == 9 then 92 ∷ 116 ∷ []
    else if c == 13 then 92 ∷ 114 ∷ []
    else if is_none (char_width false c) then 0xFFFD ∷ []
    else c ∷ []

-- the characters by which a text is shown
abbrev pub shown_text : List ℕ → List ℕ
shown_text text = flat_map visible_text (chars text)

-- the longest front that fits into so many columns
abbrev pub cut : ℕ → List ℕ → List ℕ
cut room [] = []
cut room (c ∷ cs) = if nat_le (columns_of c) room then c ∷ cut (room - columns_of c) cs else []

abbrev pub is_blank : ℕ → Bool
is_blank c = c == 32

-- no blanks at the end
abbrev pub trimmed_text : List ℕ → List ℕ
trimmed_text cs = take (length cs - suffix_len is_blank cs) cs
