-- The bytes of fields as they are written.
use Rattle.std.proofs.Common.{◌≡◌, ◌<◌, ℕ, true, List, [], ◌∷◌, length, get_or, map, Option, Some, None, refl, ap, sym, ◌∙◌, arith}
use Rattle.std.proofs.lemmas.List.{length-map, get_or-map}
use Rattle.tb_value.specs.Promise.Datum.{Datum, null, is_present}
use Rattle.tb_value.specs.Promise.Kind.{Kind}
use Rattle.tb_chunk.specs.Chunk.{or_null}
use Rattle.tb_rowkey.specs.Promise.RowKey.{bit, field_code}

-- values whose field tells no more than that they are present
module _ {X : Type 0} (t : Kind) (shows : X → Datum) (there : (x : X) → is_present (shows x) ≡ true) (code : (x : X) → field_code t (shows x) ≡ 1 ∷ []) where
  cell_code : (o : Option X) → bit (is_present (or_null shows o)) ∷ [] ≡ field_code t (or_null shows o)
  cell_code None = refl
  cell_code (Some x) = ap (λ b. bit b ∷ []) (there x) ∙ sym (code x)

  pub mark_code : (xs : List (Option X)) (i : ℕ) → i < length (map (or_null shows) xs)
      → bit (is_present (get_or (map (or_null shows) xs) i null)) ∷ [] ≡ field_code t (get_or (map (or_null shows) xs) i null)
  mark_code xs i low =
      let long = length-map xs (or_null shows) in
      let value = get_or-map (or_null shows) xs i None null (omega (arith, low, long)) in
      ap (λ v. bit (is_present v) ∷ []) value ∙ cell_code (get_or xs i None) ∙ ap (field_code t) (sym value)
