-- Some rows of a table.
use Rattle.std.proofs.Common.{◌≡◌, ℕ, zero, suc, ◌<◌, Bool, true, false, cond, List, [], ◌∷◌, length, get_or, map, refl, ◌∙◌, Option, Some, None}
use Rattle.std.specs.List.{cons_option, filter_map}
use Rattle.std.specs.Option.{option_map}
use Rattle.std.proofs.lemmas.List.{get_or-map, length-map}
use Rattle.tb_value.proofs.Loops.{map-map}
use Rattle.tb_value.specs.Promise.Datum.{Datum, null}
use Rattle.tb_value.specs.Promise.Names.{Name, same_name}
use Rattle.tb_frame.specs.Promise.Table.{TableColumn, Table, height, names_of, row_at, schema_of}
use Rattle.tb_frame.specs.Promise.Join.{column_named, field, value_at}
use Rattle.tb_parts.specs.Promise.Parts.{column_among, rows_in, table_among, whole_row}

module _ (rows : List ℕ) where
  -- VALUES

  pub value_among : (vs : List Datum) (a : ℕ) → a < length rows → get_or (map (λ i. get_or vs i null) rows) a null ≡ get_or vs (whole_row rows a) null
  value_among vs a low = get_or-map (λ i. get_or vs i null) rows a 0 null low

  pub field_among : (keys : Table) (p a : ℕ) → a < length rows → field (table_among rows keys) p a ≡ field keys p (whole_row rows a)
  field_among [] p a low = refl
  field_among (c ∷ cs) zero a low = value_among c.values a low
  field_among (c ∷ cs) (suc p) a low = field_among cs p a low

  pub row_among : (keys : Table) (a : ℕ) → a < length rows → row_at (table_among rows keys) a ≡ row_at keys (whole_row rows a)
  row_among [] a low = refl
  row_among (c ∷ cs) a low = λ t. value_among c.values a low t ∷ row_among cs a low t

  -- no row, or one of them
  abbrev pub IsAmong : Option ℕ → Type 0
  IsAmong None = Unit {0}
  IsAmong (Some a) = a < length rows

  pub at_among : (c : TableColumn) (o : Option ℕ) → IsAmong o → value_at (column_among rows c) o ≡ value_at c (option_map (whole_row rows) o)
  at_among c None h = refl
  at_among c (Some a) low = value_among c.values a low

  -- COLUMNS

  pub names_among : (t : Table) → names_of (table_among rows t) ≡ names_of t
  names_among t = map-map (λ (c : TableColumn). c.name) (column_among rows) t

  pub kinds_among : (t : Table) → map (λ (c : TableColumn). c.kind) (table_among rows t) ≡ map (λ (c : TableColumn). c.kind) t
  kinds_among t = map-map (λ (c : TableColumn). c.kind) (column_among rows) t

  pub schema_among : (t : Table) → schema_of (table_among rows t) ≡ schema_of t
  schema_among t = map-map (λ (c : TableColumn). (c.name, c.kind)) (column_among rows) t

  pub many_among : (t : Table) → length (table_among rows t) ≡ length t
  many_among t = length-map t (column_among rows)

  pub named_among : (t : Table) (n : Name) → column_named (table_among rows t) n ≡ option_map (column_among rows) (column_named t n)
  named_among [] n = refl
  named_among (c ∷ cs) n = at (same_name c.name n) (named_among cs n)
    where
      at : (b : Bool) → column_named (table_among rows cs) n ≡ option_map (column_among rows) (column_named cs n)
          → cond b (Some (column_among rows c)) (column_named (table_among rows cs) n) ≡ option_map (column_among rows) (cond b (Some c) (column_named cs n))
      at true e = refl
      at false e = e

  put : (o : Option TableColumn) (cs : Table) → cons_option (option_map (column_among rows) o) (table_among rows cs) ≡ table_among rows (cons_option o cs)
  put None cs = refl
  put (Some c) cs = refl

  pub keys_among : (t : Table) (names : List Name) → filter_map (column_named (table_among rows t)) names ≡ table_among rows (filter_map (column_named t) names)
  keys_among t [] = refl
  keys_among t (n ∷ ns) = (λ i. cons_option (named_among t n i) (keys_among t ns i)) ∙ put (column_named t n) (filter_map (column_named t) ns)

-- the height of a part
pub height_among : (part : ℕ → ℕ) (t : Table) (p : ℕ) → height (table_among (rows_in part (height t) p) t) ≡ length (rows_in part (height t) p)
height_among part [] p = refl
height_among part (c ∷ cs) p = length-map (rows_in part (length c.values) p) (λ i. get_or c.values i null)
