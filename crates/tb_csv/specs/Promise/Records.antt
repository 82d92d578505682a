-- The records of a text.
use Rattle.std.specs.Prelude.{◌+◌, ℕ, Bool, true, false, List, [], ◌∷◌, drop, length, map, slice_index_or, Option, Some, None, if◌then◌else◌}
use Rattle.std.specs.List.{list_all}
use Rattle.std.specs.Str.{is_utf8}
use Rattle.csv.specs.Machine.{ends_at_end, step}
use Rattle.csv.specs.Reading.{default_config, records_from, strip_bom}
use Rattle.csv.specs.declared.parser.Action.{Action}
use Rattle.csv.specs.declared.parser.Action.TheVariants as act
use Rattle.csv.specs.declared.parser.Config.{Config}
use Rattle.csv.specs.declared.parser.State.{State}
use Rattle.csv.specs.declared.parser.State.TheVariants as st

-- a field is absent, or a text of bytes
abbrev pub Field : Type 0
Field = Option (List ℕ)

-- a record is a list of fields
abbrev pub Record : Type 0
Record = List Field

-- the bytes of the fields of a record
abbrev pub Line : Type 0
Line = List (List ℕ)

-- an absent field has no byte
abbrev pub bytes_of : Field → List ℕ
bytes_of None = []
bytes_of (Some s) = s

abbrev pub line_of : Record → Line
line_of r = map bytes_of r

-- RFC 4180 with this byte between fields
abbrev pub form : ℕ → Config
form separator = record default_config { delimiter = separator }

-- the bytes of the fields of each record of a text, without a byte-order mark at its front. There is at most one more record than the text has bytes
unfoldable pub lines_of : ℕ → List ℕ → List Line
lines_of separator text =
    records_from (form separator) (length text + 1) st.StartRecord (strip_bom text)

-- a field that ends in this state began with a quote, and may lack the one that closes it
abbrev pub is_quoted : State → Bool
is_quoted st.InQuoted = true
is_quoted st.AfterQuote = true
is_quoted _ = false

abbrev pub ends_field : Action → Bool
ends_field act.EndField = true
ends_field act.EndRecord = true
ends_field _ = false

-- whether each field that ends from this state on stands in quotes
unfoldable pub marks_from : Config → State → List ℕ → List Bool
marks_from cfg s [] = if ends_at_end s then is_quoted s ∷ [] else []
marks_from cfg s (c ∷ rest) =
    if ends_field (step cfg s c).1
    then is_quoted s ∷ marks_from cfg (step cfg s c).0 rest
    else marks_from cfg (step cfg s c).0 rest

-- whether each field of a text stands in quotes
unfoldable pub marks_of : ℕ → List ℕ → List Bool
marks_of separator text = marks_from (form separator) st.StartRecord (strip_bom text)

-- a field without a byte is absent, unless it stands in quotes
abbrev pub field : Bool → List ℕ → Field
field true [] = Some []
field false [] = None
field q (c ∷ cs) = Some (c ∷ cs)

-- fields, each by its mark. A field without a mark stands in no quotes
abbrev pub marked_fields : List Bool → Line → Record
marked_fields qs [] = []
marked_fields [] (s ∷ ss) = field false s ∷ marked_fields [] ss
marked_fields (q ∷ qs) (s ∷ ss) = field q s ∷ marked_fields qs ss

-- records, whose fields have the marks one after another
abbrev pub marked_records : List Bool → List Line → List Record
marked_records qs [] = []
marked_records qs (l ∷ ls) = marked_fields qs l ∷ marked_records (drop (length l) qs) ls

-- the records of a text
unfoldable pub records_of : ℕ → List ℕ → List Record
records_of separator text = marked_records (marks_of separator text) (lines_of separator text)

-- each field is UTF-8
abbrev pub is_text : Line → Bool
is_text l = list_all is_utf8 l

-- the fields of a column
abbrev pub column_fields : List Record → ℕ → List Field
column_fields rows j = map (λ (r : Record). slice_index_or r j None) rows
