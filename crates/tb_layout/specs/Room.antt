-- A line as it is written: the text, and the room that is left in the line.
use Rattle.std.specs.Prelude.{ℕ, ◌-◌, ◌++◌, ◌&&◌, Bool, List, Option, Some, None, encode_utf8, if◌then◌else◌, nat_le, nat_lt}
use Rattle.std.specs.List.{fold}
use Rattle.tb_layout.specs.Promise.Characters.{columns_of}

-- the room behind so many columns; none, once something did not fit
abbrev pub room_left : Option ℕ → ℕ → Option ℕ
room_left None n = None
room_left (Some room) n = if nat_le n room then Some (room - n) else None

abbrev pub within : List ℕ → Option ℕ → ℕ → List ℕ × Option ℕ
within s None c = (s, None)
within s (Some room) c = if nat_le (columns_of c) room
    then (s ++ encode_utf8 c, Some (room - columns_of c))
    else (s, None)

-- the text and the room behind characters, of which the front is written that fits
abbrev pub with_cut : List ℕ × Option ℕ → List ℕ → List ℕ × Option ℕ
with_cut p cs = fold (λ q c. within q.0 q.1 c) p cs

-- a byte that is a character of one column, and is shown as it is
abbrev pub is_plain : ℕ → Bool
is_plain c = nat_le 32 c && nat_lt c 127
