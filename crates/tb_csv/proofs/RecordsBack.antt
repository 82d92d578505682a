-- The records of the text of a table.
use Rattle.std.proofs.Common.{◌≡◌, ◌≤◌, ◌+◌, ◌∷◌, [], ℕ, List, Some, None, false, length, map, refl, arith}
use Rattle.std.specs.List.{All}
use Rattle.std.proofs.lemmas.List.{length-append}
use Rattle.std.proofs.lemmas.List.Elements.{All-cons, All-nil}
use Rattle.csv.specs.Reading.{strip_bom}
use Rattle.tb_value.specs.Promise.Pairs.{row_numbers}
use Rattle.tb_frame.specs.Promise.Table.{Table, height, names_of}
use Rattle.tb_csv.specs.Laws.{comma}
use Rattle.tb_csv.specs.Promise.Records.{Record, lines_of, marks_of, records_of}
use Rattle.tb_csv.specs.Promise.Texts.{csv_text, line_text, no_column, record_text, records_text, row_fields, table_records}
use Rattle.tb_csv.specs.Promise.LineNumbers.{has_open_quote}
use Rattle.tb_csv.proofs.ClosedQuotes.{closed_text}
use Rattle.tb_csv.proofs.LinesBack.{Shows, lines_run, records_run}

-- a record takes a byte at least
long : (rs : List Record) → length rs ≤ length (records_text comma rs)
long [] = omega arith
long (r ∷ rs) =
    let h = long rs in
    omega (arith, h, length-append (record_text comma r) (records_text comma rs), length-append (line_text comma r) (10 ∷ []))

row_shows : (t : Table) (n : ℕ) → no_column t ≡ None → Shows (row_fields t n)
row_shows [] n h = cc h
row_shows (c ∷ []) n h = tt
row_shows (c ∷ d ∷ ds) n h = tt

rows_show : (t : Table) (ns : List ℕ) → no_column t ≡ None → All Shows (map (row_fields t) ns)
rows_show t [] h = All-nil Shows
rows_show t (n ∷ ns) h = All-cons Shows (row_fields t n) (map (row_fields t) ns) (row_shows t n h) (rows_show t ns h)

names_show : (t : Table) → no_column t ≡ None → Shows (map (λ n. Some n) (names_of t))
names_show [] h = cc h
names_show (c ∷ []) h = tt
names_show (c ∷ d ∷ ds) h = tt

records_show : (t : Table) → no_column t ≡ None → All Shows (table_records t)
records_show t h = All-cons Shows _ (map (row_fields t) (row_numbers (height t))) (names_show t h) (rows_show t (row_numbers (height t)) h)

from_text : (rs : List Record) (x : List ℕ) → All Shows rs → x ≡ records_text comma rs → strip_bom x ≡ x → records_of comma x ≡ rs
unfolding records_of lines_of marks_of
from_text rs x all is front = rw (front, is, lines_run rs (length (records_text comma rs) + 1) (let h = long rs in omega (arith, h)) all) (records_run rs all)

pub records_back : (t : Table) → no_column t ≡ None → strip_bom (csv_text comma t) ≡ csv_text comma t → records_of comma (csv_text comma t) ≡ table_records t
unfolding csv_text
records_back t some front = from_text (table_records t) (csv_text comma t) (records_show t some) refl front

-- and its quotes are closed
pub closed : (t : Table) → no_column t ≡ None → strip_bom (csv_text comma t) ≡ csv_text comma t → has_open_quote comma (csv_text comma t) ≡ false
unfolding csv_text
closed t some front = closed_text (table_records t) (csv_text comma t) (records_show t some) refl front
