-- The lines of a text on which its records and its quotes stand. Lines are counted from 1.
use Rattle.std.specs.Prelude.{◌+◌, ◌==◌, ◌&&◌, ◌||◌, ℕ, not, Bool, true, false, List, [], ◌∷◌, Option, Some, None, option_map, if◌then◌else◌, count_by, slice_index, slice_get}
use Rattle.std.specs.List.{fold}
use Rattle.csv.specs.Machine.{ends_at_end, step}
use Rattle.csv.specs.Reading.{strip_bom}
use Rattle.csv.specs.declared.parser.Config.{Config}
use Rattle.csv.specs.declared.parser.State.{State}
use Rattle.csv.specs.declared.parser.State.TheVariants as st
use Rattle.tb_value.specs.Promise.Pairs.{row_numbers}
use Rattle.tb_csv.specs.Promise.Records.{form, is_quoted}
use Rattle.tb_csv.specs.declared.fault.CsvFault.{CsvFault}
use Rattle.tb_csv.specs.declared.fault.CsvFault.TheVariants.{OpenQuote, NotUtf8, RepeatedName, FieldCount, NotOfType}

-- the state of the toolchain's reader behind bytes
unfoldable pub state_behind : Config → State → List ℕ → State
state_behind cfg s [] = s
state_behind cfg s (c ∷ rest) = state_behind cfg (step cfg s c).0 rest

-- inside quotes
abbrev pub is_open : State → Bool
is_open st.InQuoted = true
is_open _ = false

-- the text ends inside quotes that nothing closes
unfoldable pub has_open_quote : ℕ → List ℕ → Bool
has_open_quote separator text =
    is_open (state_behind (form separator) st.StartRecord (strip_bom text))

-- a record begins with the byte between these states: there was none before it, and there is one behind it
abbrev pub begins_record : State → State → Bool
begins_record s t = not (ends_at_end s) && ends_at_end t

-- the byte between these states is a quote that opens a field
abbrev pub opens_field : State → State → Bool
opens_field s t = not (is_quoted s) && is_quoted t

-- the places of the bytes between such states, of bytes that are read from a state on; the first byte has place i
unfoldable pub places_from : (State → State → Bool) → Config → State → ℕ → List ℕ → List ℕ
places_from p cfg s i [] = []
places_from p cfg s i (c ∷ rest) =
    if p s (step cfg s c).0
    then i ∷ places_from p cfg (step cfg s c).0 (i + 1) rest
    else places_from p cfg (step cfg s c).0 (i + 1) rest

-- the places of the first bytes of the records of a text
abbrev pub record_places : ℕ → List ℕ → List ℕ
record_places separator text = places_from begins_record (form separator) st.StartRecord 0 text

-- the places of the quotes that open fields
abbrev pub quote_places : ℕ → List ℕ → List ℕ
quote_places separator text = places_from opens_field (form separator) st.StartRecord 0 text

-- a line ends at a line feed, and at a carriage return that no line feed follows
abbrev pub ends_line : List ℕ → ℕ → Bool
ends_line text i = (slice_index text i == 10)
    || ((slice_index text i == 13) && not (slice_index text (i + 1) == 10))

-- the line of a place: one more than lines end before it
abbrev pub line_at : List ℕ → ℕ → ℕ
line_at text i = 1 + count_by (ends_line text) (row_numbers i)

abbrev pub last : List ℕ → Option ℕ
last places = fold (λ (found : Option ℕ) i. Some i) None places

-- the line on which a record begins
abbrev pub record_line : ℕ → List ℕ → ℕ → Option ℕ
record_line separator text i =
    option_map (line_at text) (slice_get (record_places separator text) i)

-- the line of the last quote that opens a field
abbrev pub quote_line : ℕ → List ℕ → Option ℕ
quote_line separator text = option_map (line_at text) (last (quote_places separator text))

-- the line of a fault of a text without a byte-order mark: that of its quote, or of the record that is told, or of the names
abbrev pub line_of_fault : ℕ → List ℕ → CsvFault → Option ℕ
line_of_fault separator text OpenQuote = quote_line separator text
line_of_fault separator text (NotUtf8 i) = record_line separator text i
line_of_fault separator text (RepeatedName n) = record_line separator text 0
line_of_fault separator text (FieldCount i expected found) = record_line separator text i
line_of_fault separator text (NotOfType i column expected) = record_line separator text i
line_of_fault separator text _ = None

-- the line of a fault of a text
abbrev pub fault_line : ℕ → List ℕ → CsvFault → Option ℕ
fault_line separator text fault = line_of_fault separator (strip_bom text) fault
