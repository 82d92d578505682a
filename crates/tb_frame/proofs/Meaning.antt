-- What it means that two rows match.
use Rattle.std.proofs.Common.{◌≡◌, ℕ, ◌<◌, Bool, true, false, not, length, get_or, refl, ap, arith, sym, ◌∙◌, inl, inr}
use Rattle.std.specs.Prelude.{◌&&◌, ◌||◌, ◌≢◌}
use Rattle.std.specs.Bool.{Decides}
use Rattle.std.specs.List.{list_all}
use Rattle.std.proofs.lemmas.List.FromFn.{length-range_with_len, get_or-range_with_len}
use Rattle.std.proofs.lemmas.List.Sums.{AllPass-from_list_all, list_all-from_AllPass}
use Rattle.tb_value.specs.Promise.Datum.{Datum, null, boolean, int, string, binary, list, struct, is_null}
use Rattle.tb_value.specs.Promise.Same.{same, agrees}
use Rattle.tb_value.specs.Proved.ValueTests.{same-Decides}
use Rattle.tb_value.specs.Promise.Pairs.{row_numbers}
use Rattle.tb_frame.specs.Meaning.{Agree}

-- a test of each row number
pub rows_all : (f : ℕ → Bool) (n : ℕ) → Decides (list_all f (row_numbers n)) ((k : ℕ) → k < n → f k ≡ true)
rows_all f n = (
  λ h k low.
      let long : length (row_numbers n) ≡ n = length-range_with_len 0 n in
      let at : get_or (row_numbers n) k 0 ≡ k = get_or-range_with_len 0 n k 0 low ∙ omega arith in
      ap f (sym at) ∙ AllPass-from_list_all f (row_numbers n) h k 0 (omega (arith, long)),
  λ each. list_all-from_AllPass f (row_numbers n) (λ k d low.
      let long : length (row_numbers n) ≡ n = length-range_with_len 0 n in
      let here : k < n = omega (arith, long) in
      let at : get_or (row_numbers n) k d ≡ k = get_or-range_with_len 0 n k d here ∙ omega arith in
      ap f at ∙ each k here),
)

null_is : (a : Datum) → is_null a ≡ true → a ≡ null
null_is null h = refl
null_is (boolean b) h = cc
null_is (int i) h = cc
null_is (string s) h = cc
null_is (binary s) h = cc
null_is (list vs) h = cc
null_is (struct vs) h = cc

not_null : (a : Datum) → is_null a ≡ false → a ≢ null
not_null a h e = let yes_null : is_null a ≡ true = ap is_null e in absurd (cc)

or_false : (b : Bool) → (b || false) ≡ b
or_false true = refl
or_false false = refl

module _ (n : Bool) (a b : Datum) where
  agrees_at : (u v : Bool) → is_null a ≡ u → is_null b ≡ v → agrees n a b ≡ ((not u && not v && same a b) || (u && v && n))
  agrees_at u v e f = λ t. (not (e t) && not (f t) && same a b) || (e t && f t && n)

  means_at : (u v : Bool) → is_null a ≡ u → is_null b ≡ v → Decides (agrees n a b) (Agree n a b)
  means_at true true e f =
      let is : agrees n a b ≡ n = agrees_at true true e f in
      (λ h. inr (null_is a e, null_is b f, sym is ∙ h), λ w. elim w [ inl x ↦ absurd (x.0 (null_is a e)) | inr y ↦ is ∙ y.2 ])
  means_at true false e f =
      let is : agrees n a b ≡ false = agrees_at true false e f in
      (λ h. absurd (let c : false ≡ true = sym is ∙ h in cc), λ w. elim w [ inl x ↦ absurd (x.0 (null_is a e)) | inr y ↦ absurd (not_null b f y.1) ])
  means_at false true e f =
      let is : agrees n a b ≡ false = agrees_at false true e f in
      (λ h. absurd (let c : false ≡ true = sym is ∙ h in cc), λ w. elim w [ inl x ↦ absurd (x.1 (null_is b f)) | inr y ↦ absurd (not_null a e y.0) ])
  means_at false false e f =
      let is : agrees n a b ≡ same a b = agrees_at false false e f ∙ or_false (same a b) in
      (λ h. inl (not_null a e, not_null b f, (same-Decides a b).0 (sym is ∙ h)), λ w. elim w [ inl x ↦ is ∙ (same-Decides a b).1 x.2 | inr y ↦ absurd (not_null a e y.0) ])

  pub agrees-Decides : Decides (agrees n a b) (Agree n a b)
  agrees-Decides = means_at (is_null a) (is_null b) refl refl
