-- The rows of a text without quotes.
use Rattle.std.proofs.Common.{◌≡◌, ◌==◌, ◌<◌, ◌≤◌, ◌+◌, ◌-◌, ◌++◌, ◌∷◌, ◌∙◌, [], ℕ, suc, List, Bool, true, false, cond, not, drop, take, length, map, get_or, refl, sym, ap, subst, arith, append_assoc, length-append, drop-drop, length-drop, zero-add, Option, IfSome}
use Rattle.std.specs.List.{All, position_or_len, prefix_len}
use Rattle.std.specs.Bool.{then_some}
use Rattle.std.proofs.lemmas.Bool.{eqb-true}
use Rattle.std.proofs.lemmas.Bool.Decides.{nat_tests}
use Rattle.std.proofs.lemmas.List.{append-nil, drop_all, drop_more, get_or-drop, map-append}
use Rattle.std.proofs.lemmas.List.Elements.{All-cons, All-nil, All-push, All-same}
use Rattle.std.proofs.lemmas.List.Sums.{passes_at_first, prefix_len-le-length, prefix_len_stops}
use Rattle.csv.specs.declared.parser.State.TheVariants as st
use Rattle.tb_csv.specs.LinesIn.{lines_in}
use Rattle.tb_csv.specs.Places.{has_quote}
use Rattle.tb_csv.specs.Plain.{ArePlainRows, IsRow, is_field_end, is_line_end, plain_lines}
use Rattle.tb_csv.specs.Promise.Records.{Line, form}
use Rattle.tb_csv.specs.Read.{all_fields}
use Rattle.tb_csv.specs.Spans.{LiesIn, bytes_at}
use Rattle.tb_csv.specs.declared.spans.PlainRows.{PlainRows}
use Rattle.tb_csv.specs.declared.spans.Span.{Span}
use Rattle.tb_csv.proofs.PlainBytes.{byte_joins, field_ends, line_end_skipped, no_lines, no_quote_at, no_quote_behind, row_begins, row_ends, text_ends}
use Rattle.tb_csv.proofs.Truth.{not_true}

-- RUNS OF BYTES

skip_more : (separator c : ℕ) (rest : List ℕ) (b : Bool) (n : ℕ) → is_line_end c ≡ b → plain_lines separator rest ≡ plain_lines separator (drop n rest)
    → plain_lines separator (c ∷ rest) ≡ plain_lines separator (drop (cond b (1 + n) 0) (c ∷ rest))
skip_more separator c rest true n is more =
    let next : suc n ≡ 1 + n = omega arith in
    line_end_skipped separator c rest is ∙ more ∙ ap (λ k. plain_lines separator (drop k (c ∷ rest))) next
skip_more separator c rest false n is more = refl

-- line ends between rows
line_ends_skipped : (separator : ℕ) (xs : List ℕ) → plain_lines separator xs ≡ plain_lines separator (drop (prefix_len is_line_end xs) xs)
line_ends_skipped separator [] = refl
line_ends_skipped separator (c ∷ rest) = skip_more separator c rest (is_line_end c) (prefix_len is_line_end rest) refl (line_ends_skipped separator rest)

join_more : (separator : ℕ) (fields : Line) (field : List ℕ) (c : ℕ) (rest : List ℕ) (b : Bool) (n : ℕ) → is_field_end separator c ≡ b
    → lines_in (form separator) st.InField fields (field ++ c ∷ []) rest ≡ lines_in (form separator) st.InField fields ((field ++ c ∷ []) ++ take n rest) (drop n rest)
    → lines_in (form separator) st.InField fields field (c ∷ rest)
    ≡ lines_in (form separator) st.InField fields (field ++ take (cond (not b) (1 + n) 0) (c ∷ rest)) (drop (cond (not b) (1 + n) 0) (c ∷ rest))
join_more separator fields field c rest true n is more = ap (λ (f : List ℕ). lines_in (form separator) st.InField fields f (c ∷ rest)) (sym (append-nil field))
join_more separator fields field c rest false n is more =
    let next : suc n ≡ 1 + n = omega arith in
    byte_joins separator fields field c rest is ∙ more
    ∙ ap (λ (f : List ℕ). lines_in (form separator) st.InField fields f (drop n rest)) (append_assoc field (c ∷ []) (take n rest))
    ∙ ap (λ k. lines_in (form separator) st.InField fields (field ++ take k (c ∷ rest)) (drop k (c ∷ rest))) next

-- the bytes of a field
bytes_join : (separator : ℕ) (fields : Line) (field xs : List ℕ)
    → lines_in (form separator) st.InField fields field xs
    ≡ lines_in (form separator) st.InField fields (field ++ take (position_or_len (is_field_end separator) xs) xs) (drop (position_or_len (is_field_end separator) xs) xs)
bytes_join separator fields field [] = ap (λ (f : List ℕ). lines_in (form separator) st.InField fields f []) (sym (append-nil field))
bytes_join separator fields field (c ∷ rest) =
    join_more separator fields field c rest (is_field_end separator c) (position_or_len (is_field_end separator) rest) refl (bytes_join separator fields (field ++ c ∷ []) rest)

-- A ROW

equal : (a b : ℕ) → a ≡ b → (a == b) ≡ true
equal a b is = grind (arith, nat_tests)

-- where the field that begins at a place ends
abbrev pub end_of : ℕ → List ℕ → ℕ → ℕ
end_of separator text place = place + position_or_len (is_field_end separator) (drop place text)

field_read : (separator : ℕ) (fields : Line) (text : List ℕ) (s : Span) → s.end ≡ end_of separator text s.start
    → lines_in (form separator) st.InField fields [] (drop s.start text) ≡ lines_in (form separator) st.InField fields (bytes_at text s) (drop s.end text)
field_read separator fields text s end =
    let n = position_or_len (is_field_end separator) (drop s.start text) in
    let size : n ≡ s.end - s.start = omega (arith, end) in
    let behind : drop n (drop s.start text) ≡ drop s.end text = drop-drop n s.start text ∙ ap (λ k. drop k text) (omega (arith, end)) in
    bytes_join separator fields [] (drop s.start text)
    ∙ ap (λ (xs : List ℕ). lines_in (form separator) st.InField fields (take n (drop s.start text)) xs) behind
    ∙ ap (λ k. lines_in (form separator) st.InField fields (take k (drop s.start text)) (drop s.end text)) size

-- so many fields of a row that begins at one place of a text were found up to another, behind those that were known
pub record IsRowTo (separator : ℕ) (text : List ℕ) (start place count : ℕ) (known new : List Span) : Type 0 where
  pub line : Line
  pub lines : lines_in (form separator) st.InField [] [] (drop start text) ≡ lines_in (form separator) st.InField line [] (drop place text)
  pub fields : map (bytes_at text) new ≡ map (bytes_at text) known ++ line
  pub full : length line ≡ count
  pub spans : All (LiesIn text) new
  pub onward : start ≤ place
  pub within : place ≤ length text

no_field : (separator : ℕ) (text : List ℕ) (start : ℕ) (known : List Span) → start ≤ length text → All (LiesIn text) known → IsRowTo separator text start start 0 known known
no_field separator text start known within lie = record {
  line = [];
  lines = refl;
  fields = sym (append-nil (map (bytes_at text) known));
  full = refl;
  spans = lie;
  onward = omega arith;
  within = within;
}

module _ (separator : ℕ) (text : List ℕ) (start count : ℕ) (known new more : List Span) (s : Span) (r : IsRowTo separator text start s.start count known new)
    (end : s.end ≡ end_of separator text s.start) (push : more ≡ new ++ s ∷ []) where
  abbrev longer : Line
  longer = r.line ++ bytes_at text s ∷ []

  size : s.end ≤ length text
  size = omega (arith, end, r.within, prefix_len-le-length (λ c. not (is_field_end separator c)) (drop s.start text), length-drop s.start text)

  lies : All (LiesIn text) more
  lies = rw push (All-push (LiesIn text) new s r.spans (omega (arith, end), size))

  pushed : map (bytes_at text) more ≡ map (bytes_at text) known ++ longer
  pushed = rw push (map-append (bytes_at text) new (s ∷ [])) ∙ ap (λ (l : Line). l ++ bytes_at text s ∷ []) r.fields ∙ append_assoc (map (bytes_at text) known) r.line (bytes_at text s ∷ [])

  count_more : length longer ≡ count + 1
  count_more = length-append r.line (bytes_at text s ∷ []) ∙ ap (λ n. n + 1) r.full

  read_to : lines_in (form separator) st.InField [] [] (drop start text) ≡ lines_in (form separator) st.InField r.line (bytes_at text s) (drop s.end text)
  read_to = r.lines ∙ field_read separator r.line text s end

  at_end : s.end < length text → lines_in (form separator) st.InField [] [] (drop start text) ≡ lines_in (form separator) st.InField r.line (bytes_at text s) (get_or text s.end 0 ∷ drop (s.end + 1) text)
  at_end low = read_to ∙ ap (lines_in (form separator) st.InField r.line (bytes_at text s)) (drop_more text s.end 0 low)

  -- a separator follows
  pub one_field : s.end < length text → get_or text s.end 0 ≡ separator → has_quote text ≡ false → IsRowTo separator text start (s.end + 1) (count + 1) known more
  one_field low is none = record {
    line = longer;
    lines = at_end low ∙ field_ends separator r.line (bytes_at text s) (get_or text s.end 0) (drop (s.end + 1) text) (equal (get_or text s.end 0) separator is) (no_quote_behind (s.end + 1) text none);
    fields = pushed;
    full = count_more;
    spans = lies;
    onward = omega (arith, end, r.onward);
    within = omega arith;
  }

  -- the text ends
  last_row : s.end ≡ length text → start < length text → IsRow separator (count + 1) text start s.end known more
  last_row past low = record {
    line = longer;
    lines = read_to ∙ rw (drop_all s.end text (omega (arith, past))) (text_ends separator r.line (bytes_at text s));
    fields = pushed;
    full = count_more;
    spans = lies;
    onward = omega (arith, past);
    within = size;
  }

  stops : s.end < length text → is_field_end separator (get_or text s.end 0) ≡ true
  stops low =
      let n = position_or_len (is_field_end separator) (drop s.start text) in
      let inside : n < length (drop s.start text) = omega (arith, end, length-drop s.start text, low) in
      ap (is_field_end separator) (ap (λ k. get_or text k 0) end ∙ sym (get_or-drop s.start text n 0))
      ∙ passes_at_first (is_field_end separator) (drop s.start text) 0 inside

  -- a line end follows
  one_row : s.end < length text → (get_or text s.end 0 == separator) ≡ false → IsRow separator (count + 1) text start (s.end + 1) known more
  one_row low other = record {
    line = longer;
    lines = at_end low ∙ row_ends separator r.line (bytes_at text s) (get_or text s.end 0) (drop (s.end + 1) text) other (rw other at (stops low));
    fields = pushed;
    full = count_more;
    spans = lies;
    onward = omega (arith, end, r.onward);
    within = omega arith;
  }

  -- a row is given if it has so many fields
  full_row : (width behind : ℕ) (b : Bool) → (count + 1 == width) ≡ b → IsRow separator (count + 1) text start behind known more
      → IfSome (then_some b behind) (λ n. IsRow separator width text start n known more)
  full_row width behind true is row = subst (λ w. IsRow separator w text start behind known more) (eqb-true (count + 1) width is) row
  full_row width behind false is row = tt

  pub last_full_row : (width : ℕ) (o : Option ℕ) → o ≡ then_some (count + 1 == width) s.end → s.end ≡ length text → start < length text
      → IfSome o (λ n. IsRow separator width text start n known more)
  last_full_row width o given past low = rw given (full_row width s.end (count + 1 == width) refl (last_row past low))

  pub one_full_row : (width : ℕ) (o : Option ℕ) → o ≡ then_some (count + 1 == width) (s.end + 1) → (s.end ≡ length text → ⊥) → (get_or text s.end 0 ≡ separator → ⊥)
      → IfSome o (λ n. IsRow separator width text start n known more)
  one_full_row width o given inside other =
      let low : s.end < length text = omega (arith, inside, size) in
      rw given (full_row width (s.end + 1) (count + 1 == width) refl (one_row low (not_true (get_or text s.end 0 == separator) (λ e. other (eqb-true (get_or text s.end 0) separator e)))))

-- ROWS

-- so many rows of a text, each of so many fields, were found up to a place, where the next one begins
pub record AreRowsTo (separator width : ℕ) (text : List ℕ) (place height : ℕ) (spans : List Span) : Type 0 where
  pub fields : all_fields (plain_lines separator text) ≡ map (bytes_at text) spans ++ all_fields (plain_lines separator (drop place text))
  pub count : length (plain_lines separator text) ≡ height + length (plain_lines separator (drop place text))
  pub level : All (λ (l : Line). length l ≡ width) (plain_lines separator (drop place text)) → All (λ (l : Line). length l ≡ width) (plain_lines separator text)
  pub lie : All (LiesIn text) spans
  pub begins : place < length text → is_line_end (get_or text place 0) ≡ false
  pub low : height ≤ place
  pub within : place ≤ length text

-- where the row begins that is the next from a place on
abbrev pub row_from : List ℕ → ℕ → ℕ
row_from text place = place + prefix_len is_line_end (drop place text)

skipped_to : (separator : ℕ) (text : List ℕ) (place : ℕ) → plain_lines separator (drop place text) ≡ plain_lines separator (drop (row_from text place) text)
skipped_to separator text place =
    let n = prefix_len is_line_end (drop place text) in
    line_ends_skipped separator (drop place text) ∙ ap (plain_lines separator) (drop-drop n place text ∙ ap (λ k. drop k text) (omega arith))

row_stands : (text : List ℕ) (place : ℕ) → row_from text place < length text → is_line_end (get_or text (row_from text place) 0) ≡ false
row_stands text place low =
    let n = prefix_len is_line_end (drop place text) in
    let inside : n < length (drop place text) = omega (arith, length-drop place text, low) in
    ap is_line_end (sym (get_or-drop place text n 0)) ∙ prefix_len_stops is_line_end (drop place text) 0 inside

pub no_row : (separator width : ℕ) (text : List ℕ) (place : ℕ) (spans : List Span) → spans ≡ [] → place ≡ row_from text 0 → place ≤ length text → AreRowsTo separator width text place 0 spans
no_row separator width text place spans empty is within =
    let to : plain_lines separator text ≡ plain_lines separator (drop place text) = skipped_to separator text 0 ∙ ap (λ k. plain_lines separator (drop k text)) (sym is) in
    record {
      fields = rw empty (ap all_fields to);
      count = ap length to ∙ sym (zero-add (length (plain_lines separator (drop place text))));
      level = λ h. All-same (λ (l : Line). length l ≡ width) _ _ to h;
      lie = rw empty (All-nil (LiesIn text));
      begins = λ low. rw is (row_stands text 0 (omega (arith, is)));
      low = omega arith;
      within = within;
    }

-- a row, and where the next one begins
pub row_more : (separator width : ℕ) (text : List ℕ) (place behind next height : ℕ) (spans more : List Span) → has_quote text ≡ false → place < length text → AreRowsTo separator width text place height spans
    → IsRow separator width text place behind spans more → next ≡ row_from text behind → next ≤ length text → AreRowsTo separator width text next (height + 1) more
row_more separator width text place behind next height spans more none low r row is within =
    let begins : plain_lines separator (drop place text) ≡ lines_in (form separator) st.InField [] [] (drop place text) =
    ap (plain_lines separator) (drop_more text place 0 low)
    ∙ row_begins separator (get_or text place 0) (drop (place + 1) text) (r.begins low) (no_quote_at text place low none)
    ∙ ap (lines_in (form separator) st.InField [] []) (sym (drop_more text place 0 low)) in
    let skipped : plain_lines separator (drop behind text) ≡ plain_lines separator (drop next text) = skipped_to separator text behind ∙ ap (λ k. plain_lines separator (drop k text)) (sym is) in
    let to : plain_lines separator (drop place text) ≡ row.line ∷ plain_lines separator (drop next text) = begins ∙ row.lines ∙ ap (λ (ls : List Line). row.line ∷ ls) skipped in
    record {
      fields = r.fields ∙ ap (λ (ls : List Line). map (bytes_at text) spans ++ all_fields ls) to
          ∙ sym (append_assoc (map (bytes_at text) spans) row.line (all_fields (plain_lines separator (drop next text))))
          ∙ ap (λ (l : Line). l ++ all_fields (plain_lines separator (drop next text))) (sym row.fields);
      count = omega (arith, r.count, ap length to);
      level = λ h. r.level (All-same (λ (l : Line). length l ≡ width) _ _ to (All-cons (λ (l : Line). length l ≡ width) _ _ row.full h));
      lie = row.spans;
      begins = λ below. rw is (row_stands text behind (omega (arith, is)));
      low = omega (arith, r.low, row.onward, is);
      within = within;
    }

-- the text ends
pub all_rows : (separator width : ℕ) (text : List ℕ) (place : ℕ) (r : PlainRows) → r.text.now ≡ text → length text ≤ place → AreRowsTo separator width text place r.height r.spans.items
    → ArePlainRows separator width text r
all_rows separator width text place r same past rows =
    let none : plain_lines separator (drop place text) ≡ [] = ap (plain_lines separator) (drop_all place text past) ∙ no_lines separator in
    record {
      fields = ap (λ (xs : List ℕ). map (bytes_at xs) r.spans.items) same ∙ sym (append-nil (map (bytes_at text) r.spans.items))
          ∙ ap (λ (ls : List Line). map (bytes_at text) r.spans.items ++ all_fields ls) (sym none) ∙ sym rows.fields;
      height = omega (arith, rows.count, ap length none);
      level = rows.level (All-same (λ (l : Line). length l ≡ width) _ _ none (All-nil (λ (l : Line). length l ≡ width)));
    }
