-- Facts on optional values, of which the first are there.
use Rattle.std.proofs.Common.{arith, ℕ, ◌≡◌, ◌≤◌, ◌<◌, ◌+◌, ◌-◌, Bool, true, false, inl, inr, ◌∙◌, ◌++◌, ◌∷◌, [], List, Option, Some, None, get_or, ap, sym, refl, length, map, min, take, drop, append-nil, length-drop}
use Rattle.std.specs.Prelude.{◌⊎◌, if◌then◌else◌, is_none, is_some}
use Rattle.std.specs.List.{list_any, prefix_len}
use Rattle.std.proofs.lemmas.List.{drop-append-le, drop-map, length-map, map-append, take-append-le, take-map}
use Rattle.tb_value.specs.Promise.Datum.{Datum}
use Rattle.tb_cell.specs.Shown.{block_len, or_null}

no_more : {X : Type 0} (xs : List X) → length xs ≡ 0 → xs ≡ []
no_more [] none = refl
no_more (x ∷ xs) none = absurd (omega arith)

either_none : (b : Bool) (n : ℕ) → 0 ≡ n → 0 ≡ (if b then 0 else n)
either_none true n e = refl
either_none false n e = e

-- the first of the values that are marked is absent
module _ {N : Type 0} where
  pub none_absent : (vs : List N) (rest : List (Option N)) → length rest ≡ 0 → list_any is_none (map Some vs ++ rest) ≡ false
  none_absent [] [] h = refl
  none_absent [] (c ∷ rest) h = absurd (omega arith)
  none_absent (v ∷ vs) rest h = none_absent vs rest h

  pub some_absent : (vs : List N) (rest : List (Option N)) → get_or rest 0 None ≡ None → 0 < length rest → list_any is_none (map Some vs ++ rest) ≡ true
  some_absent [] [] first h = absurd (omega arith)
  some_absent [] (None ∷ rest) first h = refl
  some_absent [] (Some x ∷ rest) first h = absurd (cc)
  some_absent (v ∷ vs) rest first h = some_absent vs rest first h

  pub length-leading : (vs : List N) (rest : List (Option N)) → get_or rest 0 None ≡ None → prefix_len is_some (map Some vs ++ rest) ≡ length vs
  length-leading [] [] first = refl
  length-leading [] (None ∷ rest) first = refl
  length-leading [] (Some x ∷ rest) first = absurd (cc)
  length-leading (v ∷ vs) rest first =
      let e : prefix_len is_some (map Some vs ++ rest) ≡ length vs = length-leading vs rest first in
      omega (arith, e)

  -- no block where a value is absent here, and none past the values that are there
  pub no_block : (vs theirs : List N) (rest others : List (Option N)) (xs zs : List (Option N)) (from count : ℕ)
      → get_or rest 0 None ≡ None → get_or others 0 None ≡ None → map Some vs ++ rest ≡ xs → map Some theirs ++ others ≡ zs
      → (0 < length rest) ⊎ (length theirs ≤ from)
      → 0 ≡ (if list_any is_none xs then 0 else block_len zs from count)
  no_block vs theirs rest others xs zs from count first second was other (inl some) =
      let absent : list_any is_none xs ≡ true = ap (list_any is_none) (sym was) ∙ some_absent vs rest first some in
      rw absent refl
  no_block vs theirs rest others xs zs from count first second was other (inr past) =
      let leading : prefix_len is_some zs ≡ length theirs = ap (prefix_len is_some) (sym other) ∙ length-leading theirs others second in
      let none : 0 ≡ min (from + count) (length theirs) - from = omega (arith, past) in
      either_none (list_any is_none xs) (block_len zs from count) (none ∙ ap (λ k. min (from + count) k - from) (sym leading))

  -- the block that is taken where none is absent here
  pub some_block : (vs theirs : List N) (rest others : List (Option N)) (xs zs : List (Option N)) (from count n : ℕ)
      → length rest ≡ 0 → get_or others 0 None ≡ None → map Some vs ++ rest ≡ xs → map Some theirs ++ others ≡ zs
      → n ≡ min (from + count) (length theirs) - from
      → n ≡ (if list_any is_none xs then 0 else block_len zs from count)
  some_block vs theirs rest others xs zs from count n none second was other e =
      let there : list_any is_none xs ≡ false = ap (list_any is_none) (sym was) ∙ none_absent vs rest none in
      let leading : prefix_len is_some zs ≡ length theirs = ap (prefix_len is_some) (sym other) ∙ length-leading theirs others second in
      rw there (e ∙ ap (λ k. min (from + count) k - from) (sym leading))

module _ {N : Type 0} (shows : N → Datum) where
  pub shown_values : (vs : List N) → map (or_null shows) (map Some vs) ≡ map shows vs
  shown_values [] = refl
  shown_values (v ∷ vs) = ap (λ ds. shows v ∷ ds) (shown_values vs)

  pub shown_cells : (vs : List N) (rs : List (Option N)) → map (or_null shows) (map Some vs ++ rs) ≡ map shows vs ++ map (or_null shows) rs
  shown_cells vs rs = map-append (or_null shows) (map Some vs) rs ∙ ap (λ ds. ds ++ map (or_null shows) rs) (shown_values vs)

  -- a part of the values that are there
  pub shown_part : (vs : List N) (rs : List (Option N)) (from n : ℕ) → from + n ≤ length vs → take n (drop from (map (or_null shows) (map Some vs ++ rs))) ≡ map shows (take n (drop from vs))
  shown_part vs rs from n within =
      let many = length-map vs shows in
      ap (λ ds. take n (drop from ds)) (shown_cells vs rs)
      ∙ ap (take n) (drop-append-le from (map shows vs) (map (or_null shows) rs) (omega (arith, within, many)))
      ∙ take-append-le n (drop from (map shows vs)) (map (or_null shows) rs) (omega (arith, within, many, length-drop from (map shows vs)))
      ∙ ap (take n) (drop-map shows from vs)
      ∙ take-map shows n (drop from vs)

  -- a block of values that are there, behind values that are there
  pub block_shown : (new old slice theirs : List N) (rest others : List (Option N)) (xs ys zs : List (Option N)) (from n : ℕ)
      → length rest ≡ 0 → from + n ≤ length theirs → slice ≡ theirs → map shows new ≡ map shows old ++ map shows (take n (drop from slice))
      → map Some new ++ rest ≡ xs → map Some old ++ rest ≡ ys → map Some theirs ++ others ≡ zs
      → map (or_null shows) xs ≡ map (or_null shows) ys ++ take n (drop from (map (or_null shows) zs))
  block_shown new old slice theirs rest others xs ys zs from n none within same e is was other =
      let whole : (vs : List N) (us : List (Option N)) → map Some vs ++ rest ≡ us → map (or_null shows) us ≡ map shows vs =
      λ vs us h. sym (ap (map (or_null shows)) h) ∙ shown_cells vs rest ∙ ap (λ rs. map shows vs ++ map (or_null shows) rs) (no_more rest none) ∙ append-nil (map shows vs) in
      let part : take n (drop from (map (or_null shows) zs)) ≡ map shows (take n (drop from theirs)) =
      ap (λ us. take n (drop from (map (or_null shows) us))) (sym other) ∙ shown_part theirs others from n within in
      whole new xs is
      ∙ e
      ∙ ap (λ us. map shows old ++ map shows (take n (drop from us))) same
      ∙ (λ i. sym (whole old ys was) i ++ sym part i)
