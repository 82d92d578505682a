-- What holds of the lines of a table.
use Rattle.std.specs.Prelude.{◌≡◌, ◌≤◌, ◌+◌, ◌++◌, ℕ, length}
use Rattle.std.specs.List.{All}
use Rattle.tb_frame.specs.Promise.Table.{Table, height}
use Rattle.tb_layout.specs.Promise.Characters.{width_of}
use Rattle.tb_layout.specs.Promise.Lines.{left_out, shown, table_lines}

-- no line of the table is wider than the terminal
abbrev pub LinesFit : Type 0
LinesFit = (line : ℕ) (t : Table) → All (λ l. width_of l ≤ line) (table_lines line t)

-- one line of names, one of dashes, and one for each row
abbrev pub OneLineEach : Type 0
OneLineEach = (line : ℕ) (t : Table) → length (table_lines line t) ≡ 2 + height t

-- each column is shown or is named among those that are left out
abbrev pub ShownOrNamed : Type 0
ShownOrNamed = (line : ℕ) (t : Table) → shown line t ++ left_out line t ≡ t
