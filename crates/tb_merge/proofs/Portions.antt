-- The left rows of all portions, one portion more.
use Rattle.std.proofs.Common.{◌≡◌, ℕ, zero, suc, refl, ◌+◌, ◌<◌, ◌≤◌, Bool, false, List, [], ◌∷◌, ◌++◌, length, get_or, take, ap, ◌∙◌, arith, ℤ, length-append}
use Rattle.std.proofs.lemmas.List.{take_more}
use Rattle.std.proofs.lemmas.List.Folds.{length-flat_map-take}
use Rattle.std.proofs.lemmas.List.FromFn.{length-range_with_len}
use Rattle.tb_value.specs.declared.index.JoinPair.{JoinPair}
use Rattle.tb_value.specs.Promise.Pairs.{row_numbers}
use Rattle.tb_pool.specs.Portions.{places_of}
use Rattle.tb_value.specs.declared.limits.TheConstants.{MAX_ROWS}
use Rattle.tb_merge.specs.declared.by_portion.Progress.{Progress}
use Rattle.tb_merge.specs.Keys.{inner_listing}
use Rattle.tb_merge.specs.Progress.{IsMergedTo}
use Rattle.tb_merge.specs.RowPairs.{pairs_of, portion_rows}
use Rattle.tb_merge.proofs.Listings.{flat_more}
use Rattle.tb_merge.proofs.Matches.{inner_is}

take_all : (ps : List (ℕ × ℕ)) (n : ℕ) → length ps ≤ n → take n ps ≡ ps
take_all [] zero h = refl
take_all [] (suc n) h = refl
take_all (p ∷ ps) zero h = absurd (omega arith)
take_all (p ∷ ps) (suc n) h = ap (λ (l : List (ℕ × ℕ)). p ∷ l) (take_all ps n (omega arith))

pub rows-all : (cuts : List (ℕ × ℕ)) (i : ℕ) → length cuts ≤ i → length (portion_rows (take i cuts)) ≡ length (portion_rows cuts)
rows-all cuts i full = ap (λ (ps : List (ℕ × ℕ)). length (portion_rows ps)) (take_all cuts i full)

module _ (cuts : List (ℕ × ℕ)) (i : ℕ) (low : i < length cuts) where
  front_more : take (i + 1) cuts ≡ take i cuts ++ get_or cuts i (0, 0) ∷ []
  front_more = take_more cuts i (0, 0) low

  pub rows-step : length (portion_rows (take (i + 1) cuts)) ≡ length (portion_rows (take i cuts)) + (get_or cuts i (0, 0)).1
  rows-step =
      let x = get_or cuts i (0, 0) in
      let e = ap (λ (l : List (ℕ × ℕ)). length (portion_rows l)) front_more in
      let m = ap (λ (l : List ℕ). length l) (flat_more places_of (take i cuts) x) in
      let s = length-append (portion_rows (take i cuts)) (places_of x) in
      let n = length-range_with_len x.0 x.1 in
      omega (arith, e, m, s, n)

  pub rows-fit : length (portion_rows (take (i + 1) cuts)) ≤ length (portion_rows cuts)
  rows-fit =
      let x = get_or cuts i (0, 0) in
      let n = length-range_with_len x.0 x.1 in
      omega (arith, rows-step, n, length-flat_map-take places_of cuts i (0, 0) low)

-- portions of `len` rows are those of all l
pub covered : (cuts items : List (ℕ × ℕ)) (len l : ℕ) → cuts ≡ items → portion_rows items ≡ row_numbers len → len ≡ l → portion_rows cuts ≡ row_numbers l
covered cuts items len l a b c = ap portion_rows a ∙ b ∙ ap row_numbers c

pub length-covered : (cuts : List (ℕ × ℕ)) (l : ℕ) → portion_rows cuts ≡ row_numbers l → length (portion_rows cuts) ≡ l
length-covered cuts l e = ap (λ (is : List ℕ). length is) e ∙ length-range_with_len 0 l

-- what is merged once all left rows are
module _ (left right : List ℤ) (keep : Bool) (pairs : List JoinPair) (at : Progress) (merged : IsMergedTo left right keep pairs at) (all : at.row ≡ length left) where
  pub all_listed : pairs ≡ pairs_of left right keep (row_numbers (length left))
  all_listed = merged.listed ∙ ap (λ (n : ℕ). pairs_of left right keep (row_numbers n)) all

  pub all_fit : length (pairs_of left right keep (row_numbers (length left))) ≤ MAX_ROWS
  all_fit = let long = ap (λ (l : List JoinPair). length l) all_listed in omega (arith, long, merged.room)

  pub all_matched : at.matched ≡ length (inner_listing left right)
  all_matched =
      merged.matched ∙ ap (λ (n : ℕ). length (pairs_of left right false (row_numbers n))) all
      ∙ ap (λ (l : List JoinPair). length l) (inner_is left right)
