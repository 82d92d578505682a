-- Sums of lists, one after another.
use Rattle.std.proofs.Common.{◌≡◌, ◌∙◌, ◌+◌, ◌<◌, ◌≤◌, ◌+ℤ◌, ℕ, ℤ, pos, List, [], ◌∷◌, ◌++◌, length, map, fold, get_or, take, drop, Option, Some, None, refl, ap, sym, arith}
use Rattle.std.specs.Prelude.{unwrap_or}
use Rattle.std.proofs.lemmas.Int.{ints}
use Rattle.std.proofs.lemmas.List.{append-nil, length-append, length-map, map-append, take-append-drop, take_more}
use Rattle.std.proofs.lemmas.List.Concat.{flat_map-append}
use Rattle.std.proofs.lemmas.List.Sums.{fold-append}
use Rattle.tb_value.specs.Promise.Datum.{Datum, int}
use Rattle.tb_chunk.specs.Chunk.{or_null}
use Rattle.tb_chunk.specs.Promise.Col.{concatenation}
use Rattle.tb_agg.specs.Promise.Aggregates.{number, total}

from : (a : ℤ) (zs : List ℤ) → fold ◌+ℤ◌ a zs ≡ a +ℤ fold ◌+ℤ◌ (pos 0) zs
from a [] = omega (arith, ints)
from a (z ∷ zs) = let here = from (a +ℤ z) zs in let there = from (pos 0 +ℤ z) zs in omega (arith, ints, here, there)

pub total-append : (us vs : List Datum) → total (us ++ vs) ≡ total us +ℤ total vs
total-append us vs = ap (fold ◌+ℤ◌ (pos 0)) (map-append number us vs) ∙ fold-append ◌+ℤ◌ (pos 0) (map number us) (map number vs) ∙ from (total us) (map number vs)

-- what a cell counts for
number_of : (cell : Option ℤ) → total (or_null int cell ∷ []) ≡ unwrap_or cell (pos 0)
number_of None = refl
number_of (Some z) = omega (arith, ints)

-- one cell more
pub total_more : (cells : List (Option ℤ)) (i : ℕ) → i < length cells → total (map (or_null int) (take (i + 1) cells)) ≡ total (map (or_null int) (take i cells)) +ℤ unwrap_or (get_or cells i None) (pos 0)
total_more cells i low =
    ap (λ (l : List (Option ℤ)). total (map (or_null int) l)) (take_more cells i None low)
    ∙ ap total (map-append (or_null int) (take i cells) (get_or cells i None ∷ []))
    ∙ total-append (map (or_null int) (take i cells)) (or_null int (get_or cells i None) ∷ [])
    ∙ ap (λ (z : ℤ). total (map (or_null int) (take i cells)) +ℤ z) (number_of (get_or cells i None))

-- what the cells of a chunk show
abbrev shown : List (Option ℤ) → List Datum
shown c = map (or_null int) c

module _ (chunks : List (List (Option ℤ))) (i : ℕ) (chunk : List (Option ℤ)) (low : i < length chunks) (is : chunk ≡ get_or chunks i chunk) where
  -- the values of one chunk more
  values_more : concatenation (map shown (take (i + 1) chunks)) ≡ concatenation (map shown (take i chunks)) ++ shown chunk
  values_more =
      ap (λ (cs : List (List (Option ℤ))). concatenation (map shown cs)) (take_more chunks i chunk low)
      ∙ ap concatenation (map-append shown (take i chunks) (get_or chunks i chunk ∷ []))
      ∙ flat_map-append (λ (vs : List Datum). vs) (map shown (take i chunks)) (shown (get_or chunks i chunk) ∷ [])
      ∙ ap (λ (vs : List Datum). concatenation (map shown (take i chunks)) ++ vs) (append-nil (shown (get_or chunks i chunk)) ∙ ap shown (sym is))

  pub total_of_more : total (concatenation (map shown (take (i + 1) chunks))) ≡ total (concatenation (map shown (take i chunks))) +ℤ total (shown chunk)
  total_of_more = ap total values_more ∙ total-append (concatenation (map shown (take i chunks))) (shown chunk)

  pub length_of_more : length (concatenation (map shown (take (i + 1) chunks))) ≡ length (concatenation (map shown (take i chunks))) + length chunk
  length_of_more =
      let long = ap length values_more in
      let both = length-append (concatenation (map shown (take i chunks))) (shown chunk) in
      let one = length-map chunk (or_null int) in
      omega (arith, long, both, one)

  -- which are some of all values
  pub length_within : length (concatenation (map shown (take (i + 1) chunks))) ≤ length (concatenation (map shown chunks))
  length_within =
      let parts : concatenation (map shown chunks) ≡ concatenation (map shown (take (i + 1) chunks)) ++ concatenation (map shown (drop (i + 1) chunks)) =
      ap (λ (cs : List (List (Option ℤ))). concatenation (map shown cs)) (sym (take-append-drop (i + 1) chunks))
      ∙ ap concatenation (map-append shown (take (i + 1) chunks) (drop (i + 1) chunks))
      ∙ flat_map-append (λ (vs : List Datum). vs) (map shown (take (i + 1) chunks)) (map shown (drop (i + 1) chunks))
      in
      let long = ap length parts in
      let both = length-append (concatenation (map shown (take (i + 1) chunks))) (concatenation (map shown (drop (i + 1) chunks))) in
      omega (arith, long, both)
