-- How many nulls there are.
use Rattle.std.proofs.Common.{arith, zero, suc, ◌≡◌, ◌∙◌, ◌+◌, ℕ, ◌≤◌, ◌++◌, false, List, [], ◌∷◌, length, map, replicate, Option, Some, None, refl, ap, length-append}
use Rattle.std.proofs.lemmas.List.Elements.{filter-append}
use Rattle.std.proofs.lemmas.List.Sums.{length-filter, count_by-le-length}
use Rattle.std.specs.List.{count_by}
use Rattle.std.specs.Prelude.{filter, is_none}
use Rattle.tb_value.specs.Promise.Datum.{Datum, null, is_null}
use Rattle.tb_value.proofs.Unique.{count_by-cons}
use Rattle.tb_cell.specs.Shown.{or_null}
use Rattle.tb_cell.specs.Promise.Flag.{nulls}

pub nulls_of_replicated : (n : ℕ) → length (nulls (replicate n null)) ≡ n
nulls_of_replicated zero = refl
nulls_of_replicated (suc n) = ap suc (nulls_of_replicated n)

pub nulls_two : (xs ys : List Datum) → length (nulls (xs ++ ys)) ≡ length (nulls xs) + length (nulls ys)
nulls_two xs ys = ap length (filter-append is_null xs ys) ∙ length-append (nulls xs) (nulls ys)

pub nulls_at_most : (xs : List Datum) → length (nulls xs) ≤ length xs
nulls_at_most xs = rw (length-filter is_null xs) (count_by-le-length is_null xs)

-- the cells that are absent are the nulls
module _ {N : Type 0} (shows : N → Datum) (some : (cell : N) → is_null (shows cell) ≡ false) where
  absent_nulls : (cells : List (Option N)) → length (nulls (map (or_null shows) cells)) ≡ length (filter is_none cells)
  absent_nulls [] = refl
  absent_nulls (None ∷ cells) = ap suc (absent_nulls cells)
  absent_nulls (Some cell ∷ cells) = rw (some cell) (absent_nulls cells)

  pub nulls_of_cells : (cells : List (Option N)) → length (nulls (map (or_null shows) cells)) ≡ count_by is_none cells
  nulls_of_cells cells = absent_nulls cells ∙ length-filter is_none cells

-- values that are there are no nulls
pub nulls_behind : {N : Type 0} (xs : List N) (ys : List (Option N)) → count_by is_none (map Some xs ++ ys) ≡ count_by is_none ys
nulls_behind [] ys = refl
nulls_behind (x ∷ xs) ys =
    let step : count_by is_none (Some x ∷ (map Some xs ++ ys)) ≡ 0 + count_by is_none (map Some xs ++ ys) = count_by-cons is_none (Some x) (map Some xs ++ ys) in
    omega (arith, step, nulls_behind xs ys)
