-- The rows of each key of a list, and those without one.
use Rattle.std.specs.Prelude.{◌≡◌, ℕ, ◌<◌, ◌≤◌, Bool, true, List, [], length, map, Option, Some, None, unwrap_or}
use Rattle.std.specs.Map.{lookup}
use Rattle.tb_build.specs.Keys.{rows_with}
use Rattle.tb_build.specs.Plan.{entry_unless_empty}

-- the rows of each key, and those without one
pub record KeyRows (K : Type 0) : Type 0 where
  pub entries : List (K × List ℕ)
  pub bare : List ℕ

module _ {K : Type 0} (eq : K → K → Bool) where
  -- the table has an entry at just the keys that stand in the list: the names of their rows, ascending by row
  pub record AreKeyRows (name : ℕ → ℕ) (keys : List (Option K)) (t : KeyRows K) : Type 0 where
    pub entries : (k : K)
        → lookup (eq k) t.entries
        ≡ entry_unless_empty (map name (rows_with eq true keys (Some k) (length keys)))
    pub bare : t.bare ≡ map name (rows_with eq true keys None (length keys))

  -- a key has two rows
  abbrev pub HasTwins : KeyRows K → Type 0
  HasTwins t = (k : K) × (1 < length (unwrap_or (lookup (eq k) t.entries) []))

  -- each key has one row at most
  abbrev pub HasNoTwins : KeyRows K → Type 0
  HasNoTwins t = (k : K) → length (unwrap_or (lookup (eq k) t.entries) []) ≤ 1
