-- The text of a table, line by line.
use Rattle.std.proofs.Common.{◌≡◌, ◌∷◌, ◌++◌, ◌∙◌, [], ℕ, List, map, refl, sym, ap, append-nil, append_assoc, codes, drop, false, ◌==◌, encode_utf8, encode_utf8_all, length, nat_le, suc, take, true, arith, ◌+◌, ◌-◌}
use Rattle.std.specs.List.{flat_map}
use Rattle.std.proofs.lemmas.Bool.Decides.{nat_tests}
use Rattle.std.proofs.lemmas.Str.{encodes-append}
use Rattle.std.proofs.lemmas.List.{drop-map, take-map}
use Rattle.std.proofs.lemmas.Grind.{flat_map-append}
use Rattle.tb_value.specs.Promise.Pairs.{row_numbers}
use Rattle.tb_chunk.specs.Promise.Col.{Col}
use Rattle.tb_frame.specs.Promise.Table.{Table, height, names_of, plain_column, table_of}
use Rattle.tb_layout.specs.Laid.{ended, ended_line, head_text, row_bytes}
use Rattle.tb_layout.specs.Promise.Characters.{cut, shown_text, trimmed_text}
use Rattle.tb_layout.specs.Promise.Lines.{cell_in, column_width, cut_columns, dashes_in, fitting, fitting_columns, layout, left_out, name_in, note, note_text, shown, side_by_side, table_lines}

-- the lines of rows, each ended, in bytes
rows_encoded : (g : ℕ → List ℕ) (ns : List ℕ) → flat_map (λ i. encode_utf8_all (g i)) ns ≡ encode_utf8_all (flat_map g ns)
rows_encoded g [] = refl
rows_encoded g (n ∷ ns) = ap (λ (s : List ℕ). encode_utf8_all (g n) ++ s) (rows_encoded g ns) ∙ sym (encodes-append (g n) (flat_map g ns))

rows_ended : (line : ℕ) (f : ℕ → List ℕ) (ns : List ℕ) → flat_map (λ i. ended_line line (f i)) ns ≡ ended (map (λ l. trimmed_text (cut line l)) (map f ns))
rows_ended line f [] = refl
rows_ended line f (n ∷ ns) = ap (λ (s : List ℕ). ended_line line (f n) ++ s) (rows_ended line f ns)

-- the names, the dashes, and each row
table_written : (line : ℕ) (t : Table) → encode_utf8_all (head_text line (shown line t)) ++ flat_map (row_bytes line (shown line t)) (row_numbers (height t)) ≡ encode_utf8_all (ended (table_lines line t))
table_written line t =
    let u = shown line t in
    let ns = row_numbers (height t) in
    let f = λ (i : ℕ). side_by_side (cell_in line i) u in
    let g = λ (i : ℕ). ended_line line (f i) in
    let a = ended_line line (side_by_side (name_in line) u) in
    let b = ended_line line (side_by_side (dashes_in line) u) in
    ap (λ (s : List ℕ). encode_utf8_all (a ++ b) ++ s) (rows_encoded g ns)
    ∙ sym (encodes-append (a ++ b) (flat_map g ns))
    ∙ ap encode_utf8_all (append_assoc a b (flat_map g ns) ∙ ap (λ (s : List ℕ). a ++ (b ++ s)) (rows_ended line f ns))

-- the names and the dashes are written
pub head_written : (line : ℕ) (t : Table) (s₀ s₁ s₂ : List ℕ) → s₀ ≡ []
    → s₁ ≡ s₀ ++ encode_utf8_all (ended_line line (side_by_side (name_in line) t)) → s₂ ≡ s₁ ++ encode_utf8_all (ended_line line (side_by_side (dashes_in line) t))
    → s₂ ≡ encode_utf8_all (head_text line t)
head_written line t s₀ s₁ s₂ empty first second =
    let a = ended_line line (side_by_side (name_in line) t) in
    let b = ended_line line (side_by_side (dashes_in line) t) in
    second
    ∙ ap (λ (s : List ℕ). s ++ encode_utf8_all b) (first ∙ ap (λ (s : List ℕ). s ++ encode_utf8_all a) empty)
    ∙ sym (encodes-append a b)

-- the lines of the columns that are shown, and those on the others
pub written_whole : (line : ℕ) (t : Table) (s₀ s₁ s₂ s₃ : List ℕ) → s₀ ≡ encode_utf8_all (head_text line (shown line t))
    → s₁ ≡ s₀ ++ flat_map (row_bytes line (shown line t)) (row_numbers (height t))
    → s₂ ≡ s₁ ++ encode_utf8_all (ended (note (codes "cut") (names_of (cut_columns line t))))
    → s₃ ≡ s₂ ++ encode_utf8_all (ended (note (codes "left out") (names_of (left_out line t)))) → s₃ ≡ encode_utf8_all (layout line t)
unfolding layout
written_whole line t s₀ s₁ s₂ s₃ head rows second third =
    let end = λ (l : List ℕ). l ++ 10 ∷ [] in
    let x = table_lines line t in
    let a = note (codes "cut") (names_of (cut_columns line t)) in
    let b = note (codes "left out") (names_of (left_out line t)) in
    let first : s₁ ≡ encode_utf8_all (ended x) = rows ∙ ap (λ (s : List ℕ). s ++ flat_map (row_bytes line (shown line t)) (row_numbers (height t))) head ∙ table_written line t in
    third
    ∙ ap (λ (s : List ℕ). s ++ encode_utf8_all (ended b)) (second ∙ ap (λ (s : List ℕ). s ++ encode_utf8_all (ended a)) first)
    ∙ append_assoc (encode_utf8_all (ended x)) (encode_utf8_all (ended a)) (encode_utf8_all (ended b))
    ∙ ap (λ (s : List ℕ). encode_utf8_all (ended x) ++ s) (sym (encodes-append (ended a) (ended b)))
    ∙ sym (encodes-append (ended x) (ended a ++ ended b))
    ∙ ap encode_utf8_all (ap (λ (s : List ℕ). ended x ++ s) (sym (flat_map-append end a b)) ∙ sym (flat_map-append end x (a ++ b)))

-- the columns that are shown are those of the table
pub shown_columns : (line : ℕ) (cs ks : List Col) → ks ≡ take (fitting_columns line (table_of cs)) cs → table_of ks ≡ shown line (table_of cs)
shown_columns line cs ks are = ap table_of are ∙ sym (take-map plain_column (fitting_columns line (table_of cs)) cs)

-- the first column is always shown
pub cut_shown : (line : ℕ) (t : Table) → cut_columns line (shown line t) ≡ cut_columns line t
cut_shown line [] = refl
cut_shown line (c ∷ cs) =
    let fits : nat_le (column_width line c) line ≡ true = grind (arith, nat_tests) in
    let n = fitting (line - column_width line c - 2) (map (column_width line) cs) in
    let more : 1 + n ≡ suc n = omega arith in
    rw (fits, more) refl

-- and the others the rest
pub other_columns : (line n : ℕ) (cs ks : List Col) → n ≡ fitting_columns line (table_of cs) → ks ≡ drop n cs → table_of ks ≡ left_out line (table_of cs)
other_columns line n cs ks count are = ap table_of (are ∙ ap (λ (m : ℕ). drop m cs) count) ∙ sym (drop-map plain_column (fitting_columns line (table_of cs)) cs)

-- a note is a line of its own
pub note_ended : (what : List ℕ) (cs : List Col) (empty mid new cells : List ℕ) → (length cs == 0) ≡ false → cells ≡ shown_text (note_text what (names_of (table_of cs)))
    → empty ≡ [] → mid ≡ empty ++ encode_utf8_all cells → new ≡ mid ++ encode_utf8 10 → new ≡ encode_utf8_all (ended (note what (names_of (table_of cs))))
note_ended what [] empty mid new cells some is none first last = cc some
note_ended what (c ∷ cs) empty mid new cells some is none first last =
    let said = shown_text (note_text what (names_of (table_of (c ∷ cs)))) in
    last ∙ ap (λ (s : List ℕ). s ++ encode_utf8 10) (first ∙ ap (λ (s : List ℕ). s ++ encode_utf8_all cells) none)
    ∙ ap (λ (s : List ℕ). encode_utf8_all cells ++ s) (sym (append-nil (encode_utf8 10))) ∙ sym (encodes-append cells (10 ∷ []))
    ∙ ap (λ (l : List ℕ). encode_utf8_all (l ++ 10 ∷ [])) is ∙ ap encode_utf8_all (sym (append-nil (said ++ 10 ∷ [])))
