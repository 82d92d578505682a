-- A table is its names, its types and its rows.
use Rattle.std.proofs.Common.{◌≡◌, ℕ, ◌<◌, List, [], length, get_or, ap, arith, sym, ◌∙◌}
use Rattle.std.proofs.lemmas.List.{length-map, get_or-map, same_lists, ext_get_or}
use Rattle.std.proofs.lemmas.List.FromFn.{length-map-range_with_len, get_or-map-range_with_len}
use Rattle.tb_value.specs.Promise.Datum.{Datum}
use Rattle.tb_value.specs.Promise.Datum.{null}
use Rattle.tb_value.specs.Promise.Kind.{Kind}
use Rattle.tb_value.specs.Promise.Names.{Name}
use Rattle.tb_frame.specs.Promise.Table.{TableColumn, Table, height, IsTable, rows_of, row_at, schema_of}

-- the rows are as many as the table is high, and the field of a row in a column is the column's value
pub length-rows_of : (t : Table) → length (rows_of t) ≡ height t
length-rows_of t = length-map-range_with_len (row_at t) 0 (height t)

pub row_is : (t : Table) (i : ℕ) → i < height t → get_or (rows_of t) i [] ≡ row_at t i
row_is t i h = get_or-map-range_with_len (row_at t) 0 (height t) i i [] h (omega arith)

pub field_is : (t : Table) (i k : ℕ) (d : TableColumn) → k < length t → get_or (row_at t i) k null ≡ get_or (get_or t k d).values i null
field_is t i k d h = get_or-map (λ (c : TableColumn). get_or c.values i null) t k d null h

same_col : (c d : TableColumn) → c.name ≡ d.name → c.kind ≡ d.kind → c.values ≡ d.values → c ≡ d
same_col c d n y v = λ i. record { name = n i; kind = y i; values = v i }

-- columns with equal names, types, and rows of one number are equal
module _ (s t : Table) (hs : IsTable s) (ht : IsTable t) (schema : schema_of s ≡ schema_of t) (rows : rows_of s ≡ rows_of t) where
  wide : length s ≡ length t
  wide = sym (length-map s (λ (c : TableColumn). (c.name, c.kind))) ∙ ap length schema ∙ length-map t (λ (c : TableColumn). (c.name, c.kind))

  high : height s ≡ height t
  high = sym (length-rows_of s) ∙ ap length rows ∙ length-rows_of t

  kind_at : (k : ℕ) (d : TableColumn) → k < length s → ((get_or s k d).name ≡ (get_or t k d).name) × ((get_or s k d).kind ≡ (get_or t k d).kind)
  kind_at k d h =
      let e : Name × Kind = (d.name, d.kind) in
      let here = get_or-map (λ (c : TableColumn). (c.name, c.kind)) s k d e h in
      let in_t : k < length t = omega (arith, wide) in
      let there = get_or-map (λ (c : TableColumn). (c.name, c.kind)) t k d e in_t in
      let both : ◌≡◌ {A = Name × Kind} ((get_or s k d).name, (get_or s k d).kind) ((get_or t k d).name, (get_or t k d).kind) = sym here ∙ ap (λ (xs : List (Name × Kind)). get_or xs k e) schema ∙ there in
      (ap (λ (p : Name × Kind). p.0) both, ap (λ (p : Name × Kind). p.1) both)

  value_at : (k : ℕ) (d : TableColumn) → k < length s → (i : ℕ) → i < height s → get_or (get_or s k d).values i null ≡ get_or (get_or t k d).values i null
  value_at k d h i low =
      let in_t : k < length t = omega (arith, wide) in
      let low_t : i < height t = omega (arith, high) in
      let row : row_at s i ≡ row_at t i = sym (row_is s i low) ∙ ap (λ (xs : List (List Datum)). get_or xs i []) rows ∙ row_is t i low_t in
      sym (field_is s i k d h) ∙ ap (λ (r : List Datum). get_or r k null) row ∙ field_is t i k d in_t

  values_at : (k : ℕ) (d : TableColumn) → k < length s → (get_or s k d).values ≡ (get_or t k d).values
  values_at k d h =
      let in_t : k < length t = omega (arith, wide) in
      let long_s : length (get_or s k d).values ≡ height s = hs.one_height k d h in
      let long_t : length (get_or t k d).values ≡ height t = ht.one_height k d in_t in
      ext_get_or null (get_or s k d).values (get_or t k d).values (long_s ∙ high ∙ sym long_t) (λ i low. value_at k d h i (omega (arith, long_s)))

  pub same_table : s ≡ t
  same_table = same_lists s t wide (λ k d h. same_col (get_or s k d) (get_or t k d) (kind_at k d h).0 (kind_at k d h).1 (values_at k d h))
