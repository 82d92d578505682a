-- Rows whose keys match, or are the same, have the same fields in their keys.
use Rattle.std.proofs.Common.{◌≡◌, ℕ, zero, suc, ◌<◌, Bool, true, [], ◌∷◌, length, get_or, refl, sym, ◌∙◌, arith, inl, inr}
use Rattle.std.specs.Prelude.{◌&&◌, min, nat_lt}
use Rattle.std.proofs.lemmas.Bool.{and_parts}
use Rattle.std.proofs.lemmas.List.{ext_get_or, length-map}
use Rattle.tb_value.specs.Promise.Datum.{Datum, null}
use Rattle.tb_value.specs.Promise.Same.{agrees, same}
use Rattle.tb_value.specs.Proved.ValueTests.{same-Decides}
use Rattle.tb_frame.specs.Promise.Table.{TableColumn, Table, row_at}
use Rattle.tb_frame.specs.Promise.Join.{Request, field, matches, nulls_match}
use Rattle.tb_frame.specs.Promise.Refusal.{are_twins, is_counted, same_keys}
use Rattle.tb_frame.proofs.Meaning.{agrees-Decides, rows_all}

-- a field of a row
row_field : (keys : Table) (p i : ℕ) → get_or (row_at keys i) p null ≡ field keys p i
row_field [] p i = refl
row_field (c ∷ cs) zero i = refl
row_field (c ∷ cs) (suc p) i = row_field cs p i

pub rows_alike : (ls rs : Table) (i j : ℕ) → length ls ≡ length rs → ((p : ℕ) → p < length ls → field ls p i ≡ field rs p j) → row_at ls i ≡ row_at rs j
rows_alike ls rs i j long same =
    let many = length-map ls (λ (c : TableColumn). get_or c.values i null) in
    let many_right = length-map rs (λ (c : TableColumn). get_or c.values j null) in
    ext_get_or null (row_at ls i) (row_at rs j) (many ∙ long ∙ sym many_right)
    (λ p low. row_field ls p i ∙ same p (omega (arith, low, many)) ∙ sym (row_field rs p j))

agreed : (nulls : Bool) (a b : Datum) → agrees nulls a b ≡ true → a ≡ b
agreed nulls a b h = elim ((agrees-Decides nulls a b).0 h) [ inl x ↦ x.2 | inr y ↦ y.0 ∙ sym y.1 ]

pub matched_alike : (q : Request) (i j : ℕ) → length q.left_keys ≡ length q.right_keys → matches q i j ≡ true → row_at q.left_keys i ≡ row_at q.right_keys j
matched_alike q i j long h =
    rows_alike q.left_keys q.right_keys i j long (λ p low.
    agreed (nulls_match q p) (field q.left_keys p i) (field q.right_keys p j)
    ((rows_all (λ p. agrees (nulls_match q p) (field q.left_keys p i) (field q.right_keys p j)) (min (length q.left_keys) (length q.right_keys))).0 h p (omega (arith, low, long))))

pub twins_alike : (nulls : ℕ → Bool) (keys : Table) (i j : ℕ) → are_twins nulls keys i j ≡ true → row_at keys i ≡ row_at keys j
twins_alike nulls keys i j h =
    rows_alike keys keys i j refl (λ p low.
    (same-Decides (field keys p i) (field keys p j)).0
    ((rows_all (λ p. same (field keys p i) (field keys p j)) (length keys)).0
    (and_parts (nat_lt i j && is_counted nulls keys i && is_counted nulls keys j) (same_keys keys i j) h).1 p low))
