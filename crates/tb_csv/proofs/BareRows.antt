-- The rows of a piece without a quote.
use Rattle.std.proofs.Common.{◌≡◌, ◌<◌, ◌*◌, ◌∷◌, ◌∙◌, [], ℕ, List, None, Vec, Global, true, false, length, map, refl, sym, ap, subst}
use Rattle.std.specs.List.{All, list_all}
use Rattle.std.proofs.lemmas.List.{length-map}
use Rattle.csv.specs.Reading.{strip_bom}
use Rattle.tb_value.specs.Promise.Pairs.{row_numbers}
use Rattle.tb_csv.specs.Places.{has_quote}
use Rattle.tb_csv.specs.Plain.{ArePlainRows, plain_fields, plain_lines}
use Rattle.tb_csv.specs.Promise.Faults.{rows_fault}
use Rattle.tb_csv.specs.Promise.Records.{Field, Line, Record, column_fields, field, lines_of, marked_fields, marked_records, marks_of, records_of}
use Rattle.tb_csv.specs.Read.{IsRunOf, all_fields, bare_fields, fields_down, held_fields, is_text_field}
use Rattle.tb_csv.specs.declared.field_column.FieldColumn.{FieldColumn}
use Rattle.tb_csv.specs.declared.run.RunFields.TheVariants as held
use Rattle.tb_csv.specs.declared.spans.PlainRows.{PlainRows}
use Rattle.tb_csv.proofs.CutText.{lines_are}
use Rattle.tb_csv.proofs.HeldColumns.{columns_down, columns_full, text_rows, texts_down}
use Rattle.tb_csv.proofs.InPieces.{run_is}
use Rattle.tb_csv.proofs.MarkedFields.{lines_back, marked_all, marked_height, marked_level}
use Rattle.tb_csv.proofs.RecordWalks.{column_of, full_rows}
use Rattle.tb_csv.proofs.Unquoted.{no_marks, no_open_quote}

-- fields without marks
bare_marks : (l : Line) → bare_fields l ≡ marked_fields [] l
bare_marks [] = refl
bare_marks (s ∷ ss) = ap (λ (r : Record). field false s ∷ r) (bare_marks ss)

module _ (separator width : ℕ) (piece : List ℕ) (r : PlainRows) (bare : has_quote piece ≡ false) (are : ArePlainRows separator width (strip_bom piece) r) where
  abbrev ls : List Line
  ls = lines_of separator piece

  abbrev flat : List Field
  flat = bare_fields (plain_fields r)

  lines : plain_lines separator (strip_bom piece) ≡ ls
  lines = sym (lines_are separator piece)

  level : All (λ (l : Line). length l ≡ width) ls
  level = subst (All (λ (l : Line). length l ≡ width)) lines are.level

  tall : r.height ≡ length ls
  tall = are.height ∙ ap length lines

  fields : plain_fields r ≡ all_fields ls
  fields = are.fields ∙ ap all_fields lines

  all : flat ≡ all_fields (records_of separator piece)
  unfolding records_of
  all = ap bare_fields fields ∙ bare_marks (all_fields ls) ∙ no_marks separator piece bare 0 (all_fields ls) ∙ marked_all (marks_of separator piece) ls

  -- as many fields as the rows make
  pub bare_full : length flat ≡ r.height * width
  bare_full = length-map (plain_fields r) (field false) ∙ ap length fields ∙ full_rows ls width level ∙ ap (λ n. n * width) (sym tall)

  module _ (cs : Vec FieldColumn Global) (held_are : map held_fields cs.items ≡ map (λ j. fields_down width r.height j flat) (row_numbers width))
      (texts : list_all (list_all is_text_field) (map held_fields cs.items) ≡ true) where
    sound : rows_fault width 1 ls ≡ None
    unfolding records_of
    sound =
        let qs = marks_of separator piece in
        let rows = marked_records qs ls in
        let wide = marked_level width qs ls level in
        let high : r.height ≡ length rows = tall ∙ sym (marked_height qs ls) in
        let each : (j : ℕ) → j < width → list_all is_text_field (column_fields rows j) ≡ true =
        λ j low. ap (list_all is_text_field) (sym (column_of flat rows r.height width width j r.height all high wide refl low refl)) ∙ texts_down width r.height flat cs held_are texts j low in
        ap (rows_fault width 1) (sym (lines_back qs ls)) ∙ text_rows width 1 rows wide each

    pub bare_read : IsRunOf separator width piece record { fields = held.Columns cs; height = r.height }
    bare_read = run_is separator width piece flat r.height sound tall all (held.Columns cs) (no_open_quote separator piece bare) (columns_down width r.height flat cs held_are) (columns_full width r.height flat cs held_are)
