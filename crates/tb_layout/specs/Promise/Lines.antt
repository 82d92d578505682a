-- The lines of a table.
use Rattle.std.specs.Prelude.{ℕ, ◌+◌, ◌-◌, ◌==◌, ◌||◌, ◌++◌, ◌∷◌, [], Bool, true, false, List, codes, drop, if◌then◌else◌, length, map, max, min, nat_le, nat_lt, pos, replicate, slice_index_or, take}
use Rattle.std.specs.List.{flat_map, fold, list_any}
use Rattle.tb_value.specs.Promise.Datum.{Datum, null, int, binary, list, struct}
use Rattle.tb_value.specs.Promise.Kind.{Kind}
use Rattle.tb_value.specs.Promise.Pairs.{row_numbers}
use Rattle.tb_label.specs.Promise.Label.{value_text}
use Rattle.tb_date.specs.Promise.Dates.{is_date, number_text}
use Rattle.tb_value.specs.Promise.Names.{Name}
use Rattle.tb_frame.specs.Promise.Table.{Table, TableColumn, height, names_of}
use Rattle.tb_layout.specs.Promise.Characters.{cut, shown_text, trimmed_text, width_of}

-- Null is a word, and a day its date; of bytes, lists and structs nothing is shown but that they are there
abbrev pub cell_text : Kind → Datum → List ℕ
cell_text k (int z) = number_text (is_date k) z
cell_text k (binary s) = codes ".."
cell_text k (list vs) = codes ".."
cell_text k (struct vs) = codes ".."
cell_text k v = value_text v

-- the characters by which a value of the type is shown
abbrev pub cell_of : Kind → Datum → List ℕ
cell_of k v = shown_text (cell_text k v)

abbrev pub is_number : Datum → Bool
is_number (int z) = true
is_number _ = false

-- as wide as the widest of its name and its cells, or as the line where that is less
abbrev pub column_width : ℕ → TableColumn → ℕ
column_width line c = min line
    (fold (λ w v. max w (width_of (cell_of c.kind v))) (width_of (shown_text c.name)) c.values)

abbrev pub blanks : ℕ → List ℕ
blanks n = replicate n 32

-- a cell at the right of its column, or at the left
abbrev pub padded_cell : Bool → ℕ → List ℕ → List ℕ
padded_cell true width cell = blanks (width - width_of cell) ++ cell
padded_cell false width cell = cell ++ blanks (width - width_of cell)

-- what each column shows, with two blanks behind it
abbrev pub side_by_side : (TableColumn → List ℕ) → Table → List ℕ
side_by_side f t = flat_map (λ c. f c ++ blanks 2) t

abbrev pub name_in : ℕ → TableColumn → List ℕ
name_in line c = padded_cell false (column_width line c) (shown_text c.name)

abbrev pub dashes_in : ℕ → TableColumn → List ℕ
dashes_in line c = replicate (column_width line c) 45

-- whole numbers stand at the right
abbrev pub cell_in : ℕ → ℕ → TableColumn → List ℕ
cell_in line i c =
    let v = slice_index_or c.values i null in
    padded_cell (is_number v) (column_width line c) (cell_of c.kind v)

-- the names, the dashes, and each of so many rows
abbrev pub whole_lines : ℕ → Table → ℕ → List (List ℕ)
whole_lines line t rows =
    side_by_side (name_in line) t
    ∷ side_by_side (dashes_in line) t
    ∷ map (λ i. side_by_side (cell_in line i) t) (row_numbers rows)

-- WHAT FITS

-- how many columns of these widths stand in a line of so many, with two blanks between them: the longest front. The first one always does, since
-- no column is wider than the line
abbrev pub fitting : ℕ → List ℕ → ℕ
fitting room [] = 0
fitting room (w ∷ ws) = if nat_le w room then 1 + fitting (room - w - 2) ws else 0

abbrev pub fitting_columns : ℕ → Table → ℕ
fitting_columns line t = fitting line (map (column_width line) t)

-- the columns that are shown, and the others
abbrev pub shown : ℕ → Table → Table
shown line t = take (fitting_columns line t) t

abbrev pub left_out : ℕ → Table → Table
left_out line t = drop (fitting_columns line t) t

-- a text that is wider than the line
abbrev pub is_wide : ℕ → List ℕ → Bool
is_wide line cell = nat_lt line (width_of cell)

-- the first column, where its name or a cell of it is. It stands alone then, and its lines are cut
abbrev pub is_cut : ℕ → TableColumn → Bool
is_cut line c =
    is_wide line (shown_text c.name) || list_any (λ v. is_wide line (cell_of c.kind v)) c.values

abbrev pub cut_columns : ℕ → Table → Table
cut_columns line [] = []
cut_columns line (c ∷ cs) = if is_cut line c then c ∷ [] else []

-- NOTES

abbrev pub listed : List Name → List ℕ
listed [] = []
listed (n ∷ ns) = n ++ flat_map (λ m. codes ", " ++ m) ns

abbrev pub columns_word : ℕ → List ℕ
columns_word n = if n == 1 then codes " column " else codes " columns "

-- what became of columns, as "(2 columns left out: a, b)". Of no column nothing is said
abbrev pub note_text : List ℕ → List Name → List ℕ
note_text what names =
    codes "(" ++ value_text (int (pos (length names))) ++ columns_word (length names) ++ what ++ codes ": " ++ listed names ++ codes ")"

abbrev pub note : List ℕ → List Name → List (List ℕ)
note what [] = []
note what (n ∷ ns) = shown_text (note_text what (n ∷ ns)) ∷ []

-- THE WHOLE

-- the columns that are shown, cut to the width of the terminal, without blanks at the ends of lines
abbrev pub table_lines : ℕ → Table → List (List ℕ)
table_lines line t =
    map (λ l. trimmed_text (cut line l)) (whole_lines line (shown line t) (height t))

-- and below them which columns are not shown whole
abbrev pub notes : ℕ → Table → List (List ℕ)
notes line t = note (codes "cut") (names_of (cut_columns line t)) ++ note (codes "left out") (names_of (left_out line t))

-- each line ends in a line feed
unfoldable pub layout : ℕ → Table → List ℕ
layout line t = flat_map (λ l. l ++ 10 ∷ []) (table_lines line t ++ notes line t)
