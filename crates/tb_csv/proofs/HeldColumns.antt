-- Columns in place of fields that stand row by row.
use Rattle.std.proofs.Common.{◌≡◌, ◌<◌, ◌+◌, ◌*◌, ◌∷◌, ◌∙◌, [], ℕ, suc, List, None, Vec, Global, true, arith, get_or, length, map, refl, replicate, sym, ap}
use Rattle.std.specs.Prelude.{◌==◌}
use Rattle.std.specs.List.{All, list_all}
use Rattle.std.proofs.lemmas.Bool.{and_parts}
use Rattle.std.proofs.lemmas.Bool.Decides.{nat_tests}
use Rattle.std.proofs.lemmas.List.{ext_get_or, get_or-map, get_or-replicate, length-map, length-replicate}
use Rattle.std.proofs.lemmas.List.Elements.{All-head, All-tail}
use Rattle.std.proofs.lemmas.List.FromFn.{fill_by_all, get_or-map-range_with_len, length-map-range_with_len}
use Rattle.tb_value.proofs.Loops.{map-map}
use Rattle.tb_value.specs.Promise.Pairs.{row_numbers}
use Rattle.tb_csv.specs.Promise.Faults.{row_fault, rows_fault}
use Rattle.tb_csv.specs.Promise.Records.{Field, Line, Record, column_fields, is_text, line_of}
use Rattle.tb_csv.specs.Read.{HasFields, column_in, fields_down, held_fields, is_text_field}
use Rattle.tb_csv.specs.declared.field_column.FieldColumn.{FieldColumn}
use Rattle.tb_csv.specs.declared.run.RunFields.TheVariants as held
use Rattle.tb_csv.proofs.NumberWalks.{all_at}
use Rattle.tb_csv.proofs.RecordWalks.{first_skip}

-- THE FIELDS OF COLUMNS

module _ (width height : ℕ) (flat : List Field) (cs : Vec FieldColumn Global) (are : map held_fields cs.items ≡ map (λ j. fields_down width height j flat) (row_numbers width)) where
  columns_count : length cs.items ≡ width
  columns_count =
      sym (length-map cs.items held_fields) ∙ ap length are ∙ length-map-range_with_len {X = List Field} (λ j. fields_down width height j flat) 0 width

  column_at : (j : ℕ) → j < width → get_or (map held_fields cs.items) j [] ≡ fields_down width height j flat
  column_at j low =
      let at : 0 + j ≡ j = omega arith in
      ap (λ (fs : List (List Field)). get_or fs j []) are ∙ get_or-map-range_with_len (λ k. fields_down width height k flat) 0 width j j [] low at

  column_high : (j : ℕ) → j < width → length (get_or (map held_fields cs.items) j []) ≡ height
  column_high j low = ap length (column_at j low) ∙ length-map-range_with_len {X = Field} (λ row. get_or flat (row * width + j) None) 0 height

  high_at : (k : ℕ) → k < width → get_or (map (λ c. length (held_fields c)) cs.items) k 0 ≡ height
  high_at k low =
      ap (λ (xs : List ℕ). get_or xs k 0) (sym (map-map length held_fields cs.items)) ∙ get_or-map length (map held_fields cs.items) k [] 0 (omega (arith, low, length-map cs.items held_fields, columns_count)) ∙ column_high k low

  -- each column has the fields that stand down it
  pub columns_down : (j : ℕ) → j < width → column_in width height j (held.Columns cs) ≡ fields_down width height j flat
  columns_down j low =
      sym (fill_by_all (λ i. get_or (get_or (map held_fields cs.items) j []) i None) (get_or (map held_fields cs.items) j []) height None (column_high j low) (λ k less. refl)) ∙ column_at j low

  pub columns_full : HasFields width height (held.Columns cs)
  columns_full =
      ext_get_or 0 (map (λ c. length (held_fields c)) cs.items) (replicate width height) (length-map cs.items (λ c. length (held_fields c)) ∙ columns_count ∙ sym (length-replicate width height))
      (λ k low. high_at k (omega (arith, low, length-map cs.items (λ c. length (held_fields c)), columns_count)) ∙ sym (get_or-replicate width k height 0 (omega (arith, low, length-map cs.items (λ c. length (held_fields c)), columns_count))))

  -- each is of texts, if all are
  pub texts_down : list_all (list_all is_text_field) (map held_fields cs.items) ≡ true → (j : ℕ) → j < width → list_all is_text_field (fields_down width height j flat) ≡ true
  texts_down texts j low =
      ap (list_all is_text_field) (sym (column_at j low))
      ∙ all_at (list_all is_text_field) (map held_fields cs.items) j [] (omega (arith, low, length-map cs.items held_fields, columns_count)) texts

-- the fields of each column are as many as the rows
module _ (width height : ℕ) (cs : Vec FieldColumn Global) (full : HasFields width height (held.Columns cs)) where
  pub full_count : length cs.items ≡ width
  full_count = sym (length-map cs.items (λ c. length (held_fields c))) ∙ ap length full ∙ length-replicate width height

  pub full_column : (j : ℕ) → j < width → length (get_or (map held_fields cs.items) j []) ≡ height
  full_column j low =
      sym (get_or-map length (map held_fields cs.items) j [] 0 (omega (arith, low, length-map cs.items held_fields, full_count)))
      ∙ ap (λ (xs : List ℕ). get_or xs j 0) (map-map length held_fields cs.items ∙ full) ∙ get_or-replicate width j height 0 low

-- ROWS OF TEXTS

text_record : (r : Record) → ((j : ℕ) → j < length r → is_text_field (get_or r j None) ≡ true) → is_text (line_of r) ≡ true
text_record [] h = refl
text_record (f ∷ r) h = rw (h 0 (omega arith)) (text_record r (λ j low. h (suc j) (omega (arith, low))))

text_row : (w i : ℕ) (l : Line) → length l ≡ w → is_text l ≡ true → row_fault w i l ≡ None
text_row w i l wide text =
    let same : (length l == w) ≡ true = grind (arith, nat_tests) in
    rw (same, text) refl

-- rows whose columns are of texts have no fault
pub text_rows : (w i : ℕ) (rows : List Record) → All (λ (r : Record). length r ≡ w) rows → ((j : ℕ) → j < w → list_all is_text_field (column_fields rows j) ≡ true)
    → rows_fault w i (map line_of rows) ≡ None
text_rows w i [] level texts = refl
text_rows w i (r ∷ rs) level texts =
    let wide : length r ≡ w = All-head (λ (r : Record). length r ≡ w) r rs level in
    let parts : (j : ℕ) → j < w → (is_text_field (get_or r j None) ≡ true) × (list_all is_text_field (column_fields rs j) ≡ true) =
    λ j low. and_parts (is_text_field (get_or r j None)) (list_all is_text_field (column_fields rs j)) (texts j low) in
    let here : is_text (line_of r) ≡ true = text_record r (λ j low. (parts j (omega (arith, low, wide))).0) in
    first_skip (row_fault w i (line_of r)) (rows_fault w (i + 1) (map line_of rs)) (text_row w i (line_of r) (length-map r _ ∙ wide) here)
    ∙ text_rows w (i + 1) rs (All-tail (λ (r : Record). length r ≡ w) r rs level) (λ j low. (parts j low).1)
