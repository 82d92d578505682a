-- Views of long texts whose buffers get other numbers.
use Rattle.std.specs.Prelude.{◌+◌, ◌++◌, if◌then◌else◌, ℕ, Option, Some, None, nat_eq, nat_le, take, drop}
use Rattle.std.specs.Int.{to_le_bytes, w32}
use Rattle.std.specs.Option.{option_map}
use Rattle.tb_view.specs.View.{buffer_of}
use Rattle.tb_view.specs.declared.view.View.{View}

-- the buffer of a row's long text; a short one, and Null, lie in none
abbrev pub used_buffer : Option View → Option ℕ
used_buffer None = None
used_buffer (Some v) = (if nat_le v.length 12 then None else Some (buffer_of v))

-- the view of a long text whose buffer gets this number: the number's four bytes, low byte first, stand between the
-- first four bytes of the rest and its last four
unfoldable pub renumbered_view : View → ℕ → View
renumbered_view v n = record v { rest = take 4 v.rest ++ to_le_bytes w32 n ++ drop 8 v.rest }

-- the view of the same text where its buffer gets this number: with none, and where the text is short, it stays as it is
abbrev pub view_at_number : Option ℕ → Option View → Option View
view_at_number None o = o
view_at_number (Some n) None = None
view_at_number (Some n) (Some v) = Some (if nat_le v.length 12 then v else renumbered_view v n)

-- the number that the buffer of a row's text gets where those of its chunk stand from number base on: none from 0 on,
-- where each keeps its own
abbrev pub number_from : ℕ → Option View → Option ℕ
number_from base o = (if nat_eq base 0 then None else option_map (λ b. base + b) (used_buffer o))

-- the view of the same text there
abbrev pub moved_view : ℕ → Option View → Option View
moved_view base o = view_at_number (number_from base o) o
