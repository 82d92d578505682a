-- Where the fields of a text without quotes lie.
use Rattle.std.specs.Prelude.{◌≡◌, ◌==◌, ◌||◌, ◌<◌, ◌≤◌, ◌++◌, ◌∷◌, [], ℕ, Bool, List, drop, length, map}
use Rattle.std.specs.List.{All}
use Rattle.csv.specs.Machine.{carriage_return, line_feed}
use Rattle.csv.specs.declared.parser.State.TheVariants as st
use Rattle.tb_csv.specs.Promise.Records.{Line, form}
use Rattle.tb_csv.specs.Read.{all_fields}
use Rattle.tb_csv.specs.LinesIn.{lines_in}
use Rattle.tb_csv.specs.Spans.{LiesIn, bytes_at}
use Rattle.tb_csv.specs.declared.spans.PlainRows.{PlainRows}
use Rattle.tb_csv.specs.declared.spans.Span.{Span}

-- whether a line ends at this byte, or there is a blank one
abbrev pub is_line_end : ℕ → Bool
is_line_end c = (c == carriage_return) || (c == line_feed)

-- whether a field ends at this byte
abbrev pub is_field_end : ℕ → ℕ → Bool
is_field_end separator c = (c == separator) || is_line_end c

-- the fields of rows, where they lie
abbrev pub plain_fields : PlainRows → List (List ℕ)
plain_fields r = map (bytes_at r.text.now) r.spans.items

-- the lines of a text
abbrev pub plain_lines : ℕ → List ℕ → List Line
plain_lines separator text = lines_in (form separator) st.StartRecord [] [] text

-- the fields of the rows of a text, each of so many
pub record ArePlainRows (separator width : ℕ) (text : List ℕ) (r : PlainRows) : Type 0 where
  pub fields : plain_fields r ≡ all_fields (plain_lines separator text)
  pub height : r.height ≡ length (plain_lines separator text)
  pub level : All (λ (l : Line). length l ≡ width) (plain_lines separator text)

-- the fields of a line that begins at one place of a text and ends before another, behind those that were known
pub record IsRow (separator width : ℕ) (text : List ℕ) (start behind : ℕ)
    (known new : List Span) : Type 0 where
  pub line : Line
  pub lines : lines_in (form separator) st.InField [] [] (drop start text)
      ≡ line ∷ plain_lines separator (drop behind text)
  pub fields : map (bytes_at text) new ≡ map (bytes_at text) known ++ line
  pub full : length line ≡ width
  pub spans : All (LiesIn text) new
  pub onward : start < behind
  pub within : behind ≤ length text
