-- How the columns are called that are made of rows.
use Rattle.std.specs.Prelude.{ℕ, nat_lt, List, [], ◌∷◌, ◌++◌, map, if◌then◌else◌, codes}
use Rattle.std.specs.List.{join_with_byte}
use Rattle.tb_value.specs.Promise.Datum.{Datum, string}
use Rattle.tb_value.specs.Promise.Names.{Name}
use Rattle.tb_label.specs.Promise.Label.{value_text}

-- a text in double quotes, in which nothing is escaped
abbrev pub quoted_text : Name → Name
quoted_text s = codes "\"" ++ s ++ codes "\""

-- texts in braces, with a comma between each two
abbrev pub in_braces : List Name → Name
in_braces texts = codes "{" ++ join_with_byte 44 texts ++ codes "}"

-- the text of a value among several: a String stands in quotes
abbrev pub field_text : Datum → Name
field_text (string s) = quoted_text s
field_text v = value_text v

-- the header of a row: the text of its one value, or the texts of its values in braces
abbrev pub header_text : List Datum → Name
header_text (v ∷ []) = value_text v
header_text vs = in_braces (map field_text vs)

-- the name that is kept for the headers of several columns: their names in quotes and braces
abbrev pub brace_name : List Name → Name
brace_name names = in_braces (map quoted_text names)

-- the name of a column of a block: the header, behind the name of the value column where there are several
abbrev pub block_name : ℕ → Name → Name → Name → Name
block_name value_columns separator value header =
    (if nat_lt 1 value_columns then value ++ separator ++ header else header)
