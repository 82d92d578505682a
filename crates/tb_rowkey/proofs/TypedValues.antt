-- Columns of the same types and values have the same keys, however they are cut.
use Rattle.std.proofs.Common.{◌≡◌, ◌<◌, ◌^◌, ℕ, Bool, List, [], ◌∷◌, length, get_or, map, refl, ap, sym, subst, ◌∙◌, arith}
use Rattle.std.specs.List.{All}
use Rattle.std.proofs.lemmas.List.{length-map, get_or-map}
use Rattle.std.proofs.lemmas.Simd.{map-map}
use Rattle.tb_value.specs.Promise.Datum.{Datum, null}
use Rattle.tb_value.specs.Promise.Kind.{Kind}
use Rattle.tb_value.specs.Promise.Pairs.{row_numbers}
use Rattle.tb_chunk.specs.Promise.Col.{Col, values}
use Rattle.tb_rowkey.specs.FieldColumns.{typed_values}
use Rattle.tb_rowkey.specs.Promise.Columns.{row_count, kinds, fields_at, keys_at}
use Rattle.tb_rowkey.specs.Promise.RowKey.{rowkey, key_row}
use Rattle.tb_rowkey.specs.Columns.{AreShortRows}

abbrev first_length : List (Kind × List Datum) → ℕ
first_length [] = 0
first_length (p ∷ ps) = length p.1

first_length_is : (cs : List Col) → first_length (map typed_values cs) ≡ row_count cs
first_length_is [] = refl
first_length_is (c ∷ cs) = refl

module _ (cs ds : List Col) (same : map typed_values cs ≡ map typed_values ds) where
  pub same_length : length cs ≡ length ds
  same_length = sym (length-map cs typed_values) ∙ ap length same ∙ length-map ds typed_values

  pub same_count : row_count cs ≡ row_count ds
  same_count = sym (first_length_is cs) ∙ ap first_length same ∙ first_length_is ds

  same_kinds : kinds cs ≡ kinds ds
  same_kinds = sym (map-map (λ (p : Kind × List Datum). p.0) typed_values cs) ∙ ap (map (λ (p : Kind × List Datum). p.0)) same
      ∙ map-map (λ (p : Kind × List Datum). p.0) typed_values ds

  same_fields : (i : ℕ) → fields_at cs i ≡ fields_at ds i
  same_fields i =
      let field : Kind × List Datum → Datum = λ p. get_or p.1 i null in
      sym (map-map field typed_values cs) ∙ ap (map field) same ∙ map-map field typed_values ds

  pub same_rows : All (λ (c : Col). length (values c) ≡ row_count cs) cs → All (λ (d : Col). length (values d) ≡ row_count ds) ds
  same_rows h = λ k d low.
      let long = same_length in
      let under : k < length cs = omega (arith, low, long) in
      ap (λ (p : Kind × List Datum). length p.1) (sym (get_or-map typed_values ds k d (typed_values d) low))
      ∙ ap (λ (ps : List (Kind × List Datum)). length (get_or ps k (typed_values d)).1) (sym same)
      ∙ ap (λ (p : Kind × List Datum). length p.1) (get_or-map typed_values cs k d (typed_values d) under)
      ∙ h k d under ∙ same_count

  pub same_short : AreShortRows cs → AreShortRows ds
  same_short h = λ i low.
      subst (λ (fs : List Datum). length (rowkey (kinds ds) fs) < 2 ^ 32) (same_fields i)
      (subst (λ (ts : List Kind). length (rowkey ts (fields_at cs i)) < 2 ^ 32) same_kinds (h i (subst (λ n. i < n) (sym same_count) low)))

  pub same_keys : (nulls : ℕ → Bool) → keys_at cs nulls ≡ keys_at ds nulls
  same_keys nulls = λ t. map (λ i. key_row (same_kinds t) nulls (same_fields i t)) (row_numbers (same_count t))
