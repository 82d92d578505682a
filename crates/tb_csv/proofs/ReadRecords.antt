-- What was read of a text, with its marks.
use Rattle.std.proofs.Common.{◌≡◌, ◌≤◌, ◌∷◌, ◌∙◌, [], ℕ, List, Bool, append-nil, drop, length, map, get_or, Some, None, Option, Bor, false, true, refl, sym, ap, subst}
use Rattle.std.specs.List.{All}
use Rattle.csv.specs.Records.{field_at, fields_of}
use Rattle.tb_value.specs.declared.limits.TheConstants.{MAX_ROWS}
use Rattle.tb_csv.specs.Places.{MarkAlike}
use Rattle.tb_csv.specs.Read.{AreLines, AreRunRows, IsRead, all_fields, column_in, lent_field, text_fields}
use Rattle.tb_value.specs.Promise.Refusals.{first_cause}
use Rattle.tb_csv.specs.Promise.Faults.{records_fault, text_fault}
use Rattle.tb_csv.specs.Promise.LineNumbers.{has_open_quote}
use Rattle.tb_csv.specs.declared.fault.CsvFault.{CsvFault}
use Rattle.tb_csv.specs.declared.fault.CsvFault.TheVariants.{OpenQuote}
use Rattle.tb_csv.specs.Promise.Records.{Line, Record, field, line_of, lines_of, marked_fields, marked_records, marks_of, records_of}
use Rattle.tb_csv.specs.declared.lines.Lines.{Lines}
use Rattle.tb_csv.specs.declared.records.Records.{Records}
use Rattle.tb_csv.specs.declared.run.Run.{Run}
use Rattle.tb_csv.specs.declared.run.RunFields.TheVariants as held
use Rattle.tb_csv.specs.declared.run.TextFields.{TextFields}
use Rattle.tb_csv.proofs.MarkedFields.{line_back, lines_back, marked_all, marked_at, marked_height, marked_level}
use Rattle.tb_csv.proofs.RecordWalks.{column_of, found, place}

pub lines_read : (separator : ℕ) (text : List ℕ) → map line_of (records_of separator text) ≡ lines_of separator text
unfolding records_of
lines_read separator text = lines_back (marks_of separator text) (lines_of separator text)

-- rows in one run, with the marks behind those of the names
pub by_marks : (r : Records) (run : Run) (t : TextFields) (l : Lines) (ms qs : List Bool) (ls : List Line) → MarkAlike ms qs → AreLines l ls
    → r.names.items ≡ l.names.items → r.runs.items ≡ run ∷ [] → r.height ≡ l.height
    → run.fields ≡ held.Rows t → t.fields ≡ l.fields → t.marks.items ≡ drop (length l.names.items) ms → run.height ≡ l.height → IsRead r (marked_records qs ls)
by_marks r run t l ms qs [] alike h names runs height texts fields marks rows = absurd h
by_marks r run t l ms qs (first ∷ ls) alike h names runs height texts fields marks rows =
    let count : length l.names.items ≡ length first = ap length h.0 in
    let wide : length r.names.items ≡ length first = ap length names ∙ count in
    let rest = drop (length first) qs in
    let w = length r.names.items in
    let all : text_fields t ≡ all_fields (marked_records rest ls) =
    ap (λ (ps : List Bool). marked_fields ps (fields_of t.fields)) marks ∙ ap (λ k. marked_fields (drop (length l.names.items) ms) (fields_of k)) fields
    ∙ alike (length l.names.items) (fields_of l.fields) ∙ ap (λ (n : ℕ). marked_fields (drop n qs) (fields_of l.fields)) count
    ∙ ap (marked_fields rest) h.1 ∙ marked_all rest ls in
    let tall = rows ∙ h.2 ∙ sym (marked_height rest ls) in
    let level = subst (λ (n : ℕ). All (λ (row : Record). length row ≡ n) (marked_records rest ls)) (sym wide) (marked_level (length first) rest ls h.4) in
    let here : AreRunRows w run (marked_records rest ls) = record {
      columns = λ j low. ap (column_in w run.height j) texts ∙ column_of (text_fields t) (marked_records rest ls) run.height w w j run.height all tall level refl low refl;
      height = tall;
      level = level;
    } in (
      names ∙ h.0 ∙ sym (line_back qs first),
      record {
        runs = (marked_records rest ls ∷ [], sym (append-nil (marked_records rest ls)), rw runs (here, tt));
        height = height ∙ h.2 ∙ sym (marked_height rest ls);
        few = subst (λ (n : ℕ). n ≤ MAX_ROWS) (sym (marked_height rest ls)) h.3;
      },
    )

-- a field that is lent, by its mark
pub field_there : (qs : List Bool) (l : Line) (i : ℕ) (q : Bool) (s : List ℕ) (f : Option (Bor (List ℕ))) (ms : List Bool) → Some s ≡ field_at l i → ms ≡ qs → q ≡ get_or ms i false
    → lent_field f ≡ field q s → lent_field f ≡ get_or (marked_fields qs l) i None
field_there qs l i q s f ms there marks mark is =
    is ∙ ap (λ (b : Bool). field b s) (mark ∙ ap (λ (ns : List Bool). get_or ns i false) marks) ∙ ap (field (get_or qs i false)) (sym (found l i s [] there)) ∙ sym (marked_at qs l i (place l i s there))

only_one : (f : Option CsvFault) → first_cause (f ∷ []) ≡ f
only_one None = refl
only_one (Some e) = refl

-- an open quote is the first fault
pub open_fault : (separator : ℕ) (text : List ℕ) → has_open_quote separator text ≡ true → text_fault separator text ≡ Some OpenQuote
open_fault separator text is = rw is refl

-- without one the fault is that of the lines
pub lines_fault : (separator : ℕ) (text : List ℕ) → has_open_quote separator text ≡ false → records_fault (lines_of separator text) ≡ text_fault separator text
lines_fault separator text is = rw (is, lines_read separator text) (sym (only_one (records_fault (lines_of separator text))))
