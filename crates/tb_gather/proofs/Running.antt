-- Ids run as the rows that they name.
use Rattle.std.proofs.Common.{arith, ◌≡◌, ℕ, ◌<◌, ◌≤◌, List, length, map, get_or, take, ap, refl, subst, sym, Option, Some, None, inl, inr, ◌⊎◌}
use Rattle.std.specs.Prelude.{IsSome}
use Rattle.std.specs.List.{All, sum}
use Rattle.std.proofs.lemmas.Bool.{cases_lt}
use Rattle.std.proofs.lemmas.List.{get_or-map, length-map}
use Rattle.std.proofs.lemmas.List.Elements.{All-map}
use Rattle.tb_value.specs.declared.sorted.IsSorted.{IsSorted}
use Rattle.tb_value.specs.declared.sorted.IsSorted.TheVariants.{Ascending, Descending, Not}
use Rattle.tb_gather.specs.Ids.{Id, AreAllInOrder, NamesRow, IsUpTo, StandInOrder, IsRowUpTo, AreAllRowsInOrder, RowsStandInOrder, row_of, row_or_none}
use Rattle.tb_gather.proofs.Naming.{row-before}

up-of-rows : (lens : List ℕ) (p q : ℕ × ℕ) → NamesRow lens (Some p) → NamesRow lens (Some q) → row_of lens p ≤ row_of lens q → IsUpTo (Some p) (Some q)
up-of-rows lens p q named too up = by_chunk (cases_lt p.0 q.0) (cases_lt q.0 p.0)
  where
    by_chunk : (p.0 < q.0) ⊎ (q.0 ≤ p.0) → (q.0 < p.0) ⊎ (p.0 ≤ q.0) → (p.0 < q.0) ⊎ ((p.0 ≡ q.0) × (p.1 ≤ q.1))
    by_chunk (inl before) other = inl before
    by_chunk (inr behind) (inl after) = absurd (omega (arith, row-before lens q.0 p.0 q.1 p.1 after named.0 too.1))
    by_chunk (inr behind) (inr within) =
        let same : p.0 ≡ q.0 = omega arith in
        inr (same, omega (arith, ap (λ k. sum (take k lens)) same))

ids-up : (lens : List ℕ) (a b : Id) → NamesRow lens a → NamesRow lens b → IsRowUpTo (row_or_none lens a) (row_or_none lens b) → IsUpTo a b
ids-up lens None b named too up = tt
ids-up lens (Some p) None named too up = tt
ids-up lens (Some p) (Some q) named too up = up-of-rows lens p q named too up

module _ (lens : List ℕ) (ids : List Id) (named : All (NamesRow lens) ids) where
  row-at : (i : ℕ) (d : Id) → i < length ids → get_or (map (row_or_none lens) ids) i (row_or_none lens d) ≡ row_or_none lens (get_or ids i d)
  row-at i d low = get_or-map (row_or_none lens) ids i d (row_or_none lens d) low

  pub ids-run : (sorted : IsSorted) → RowsStandInOrder sorted (map (row_or_none lens) ids) → StandInOrder sorted ids
  ids-run Ascending runs = λ i j d low high.
      let up = runs i j (row_or_none lens d) low (omega (arith, length-map ids (row_or_none lens))) in
      ids-up lens (get_or ids i d) (get_or ids j d) (named i d (omega arith)) (named j d high) (rw (row-at i d (omega arith), row-at j d high) at up)
  ids-run Descending runs = λ i j d low high.
      let up = runs i j (row_or_none lens d) low (omega (arith, length-map ids (row_or_none lens))) in
      ids-up lens (get_or ids j d) (get_or ids i d) (named j d high) (named i d (omega arith)) (rw (row-at i d (omega arith), row-at j d high) at up)
  ids-run Not runs = tt

-- and the rows that ids name as the ids
rows-up : (lens : List ℕ) (a b : Id) → IsSome a → IsSome b → NamesRow lens a → NamesRow lens b → IsUpTo a b → IsRowUpTo (row_or_none lens a) (row_or_none lens b)
rows-up lens None b some other named too up = absurd (cc)
rows-up lens (Some p) None some other named too up = absurd (cc)
rows-up lens (Some p) (Some q) some other named too (inl less) = omega (arith, row-before lens p.0 q.0 p.1 q.1 less too.0 named.1)
rows-up lens (Some p) (Some q) some other named too (inr same) = omega (arith, ap (λ k. sum (take k lens)) same.0, same.1)

row-there : (lens : List ℕ) (id : Id) → IsSome id → IsSome (row_or_none lens id)
row-there lens None some = absurd (cc)
row-there lens (Some p) some = refl

pub rows-there : (lens : List ℕ) (ids : List Id) → All (λ (id : Id). IsSome id) ids → All (λ (row : Option ℕ). IsSome row) (map (row_or_none lens) ids)
rows-there lens ids some = All-map (λ (row : Option ℕ). IsSome row) (row_or_none lens) ids (λ k d low. row-there lens (get_or ids k d) (some k d low))

module _ (lens : List ℕ) (ids : List Id) (some : All (λ (id : Id). IsSome id) ids) (named : All (NamesRow lens) ids) where
  found : (i : ℕ) (d : Option ℕ) → i < length (map (row_or_none lens) ids) → get_or (map (row_or_none lens) ids) i d ≡ row_or_none lens (get_or ids i None)
  found i d low = get_or-map (row_or_none lens) ids i None d (omega (arith, length-map ids (row_or_none lens)))

  up : (i j : ℕ) (d : Option ℕ) → i < length (map (row_or_none lens) ids) → j < length (map (row_or_none lens) ids) → IsUpTo (get_or ids i None) (get_or ids j None) → IsRowUpTo (get_or (map (row_or_none lens) ids) i d) (get_or (map (row_or_none lens) ids) j d)
  up i j d low high runs =
      let n : length (map (row_or_none lens) ids) ≡ length ids = length-map ids (row_or_none lens) in
      let i-low : i < length ids = omega (arith, n) in
      let j-low : j < length ids = omega (arith, n) in
      rw (found i d low, found j d high) (rows-up lens (get_or ids i None) (get_or ids j None) (some i None i-low) (some j None j-low) (named i None i-low) (named j None j-low) runs)

  pub rows-run : (sorted : IsSorted) → StandInOrder sorted ids → RowsStandInOrder sorted (map (row_or_none lens) ids)
  rows-run Ascending runs = λ i j d low high. up i j d (omega arith) high (runs i j None low (omega (arith, length-map ids (row_or_none lens))))
  rows-run Descending runs = λ i j d low high. up j i d high (omega arith) (runs i j None low (omega (arith, length-map ids (row_or_none lens))))
  rows-run Not runs = tt

id-there : (lens : List ℕ) (id : Id) → IsSome (row_or_none lens id) → IsSome id
id-there lens None some = absurd (cc)
id-there lens (Some p) some = refl

ids-there : (lens : List ℕ) (ids : List Id) → All (λ (row : Option ℕ). IsSome row) (map (row_or_none lens) ids) → All (λ (id : Id). IsSome id) ids
ids-there lens ids some = λ k d low.
    id-there lens (get_or ids k d) (subst (λ (row : Option ℕ). IsSome row) (get_or-map (row_or_none lens) ids k d None low) (some k None (omega (arith, length-map ids (row_or_none lens)))))

-- ids of rows that run so are all there and run so
pub ids-are-run : (sorted : IsSorted) (lens : List ℕ) (ids : List Id) (rows : List (Option ℕ)) → map (row_or_none lens) ids ≡ rows → (RowsStandInOrder sorted rows → StandInOrder sorted ids) → AreAllRowsInOrder sorted rows → AreAllInOrder sorted ids
ids-are-run Ascending lens ids rows are runs run = (ids-there lens ids (subst (λ (rs : List (Option ℕ)). All (λ (row : Option ℕ). IsSome row) rs) (sym are) run.0), runs run.1)
ids-are-run Descending lens ids rows are runs run = (ids-there lens ids (subst (λ (rs : List (Option ℕ)). All (λ (row : Option ℕ). IsSome row) rs) (sym are) run.0), runs run.1)
ids-are-run Not lens ids rows are runs run = tt
