-- Tables of keys in their order.
use Rattle.std.specs.Prelude.{◌≡◌, ℕ, Bool, true, List, [], length, Option, Some, None}
use Rattle.std.specs.declared.cmp.Ordering.{Ordering}
use Rattle.tb_build.specs.Keys.{rows_with}
use Rattle.tb_build.specs.Packed.{Ascend, rows_of_key}

-- keys that ascend, beside as many rows
pub record IsInOrder {K : Type 0} (cmp : K → K → Ordering) (keys : List K)
    (rows : List ℕ) : Type 0 where
  pub ascend : Ascend cmp keys 0 (length keys)
  pub long : length rows ≡ length keys

module _ {K : Type 0} (eq : K → K → Bool) where
  -- the table has the rows of each key, ascending
  abbrev pub IsKeyTable : List (Option K) → List (K × ℕ) → Type 0
  IsKeyTable keys items =
      (k : K) → rows_of_key eq items k ≡ rows_with eq true keys (Some k) (length keys)

  -- the rows of the keys that are equal to a key; no key has none
  abbrev pub rows_for : List (K × ℕ) → Option K → List ℕ
  rows_for items (Some k) = rows_of_key eq items k
  rows_for items None = []
