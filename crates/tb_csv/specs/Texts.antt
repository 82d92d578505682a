-- The text of a table.
use Rattle.std.specs.Prelude.{◌==◌, ◌||◌, ℕ, Bool, List, [], ◌∷◌, if◌then◌else◌}
use Rattle.tb_value.specs.Promise.Kind.{Kind}
use Rattle.tb_value.specs.Promise.Kind as kind
use Rattle.tb_label.specs.Promise.Numerals.{is_digit}
use Rattle.tb_frame.specs.Promise.Table.{Table}
use Rattle.tb_csv.specs.Promise.Texts.{record_text, row_fields}

-- what stands before the field at this place of a record
abbrev pub gap : ℕ → ℕ → List ℕ
gap separator place = if place == 0 then [] else separator ∷ []

-- the text of a row
abbrev pub row_text : ℕ → Table → ℕ → List ℕ
row_text separator t i = record_text separator (row_fields t i)

-- a byte that may stand in the digits of a number
abbrev pub stands_in_numbers : ℕ → Bool
stands_in_numbers byte = (byte == 45) || is_digit byte

-- a type of days, or of no days
abbrev pub kind_by_day : Bool → Kind
kind_by_day is_day = if is_day then kind.date else kind.null
