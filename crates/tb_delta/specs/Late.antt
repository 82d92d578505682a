-- Groups, and the ids that are still to be taken out of them.
use Rattle.std.specs.Prelude.{◌≡◌, ℕ, ◌<◌, Bool, true, List, All, ◌&&◌, if◌then◌else◌}
use Rattle.std.specs.BTreeMap.{btree_map_len}
use Rattle.tb_value.specs.Promise.Datum.{Datum}
use Rattle.tb_value.specs.See.{datum}
use Rattle.tb_value.specs.declared.error.Side.{Side}
use Rattle.tb_delta.specs.Groups.{ids_at, is_side, without, without_all, AreAscending}
use Rattle.tb_delta.specs.declared.key.RowKey.{RowKey}
use Rattle.tb_delta.specs.declared.late.LateGroups.{LateGroups}

-- the ids of a side's rows that have the key: those of the group that are not gone
abbrev pub ids_left : LateGroups → Side → RowKey → List ℕ
ids_left gs s k = without_all (ids_at gs.gone s k) (ids_at gs.groups s k)

-- how many keys have ids that are gone
abbrev pub count_gone : LateGroups → ℕ
count_gone gs = btree_map_len gs.gone.groups

-- the ids of a side, gone or not, are below a number
abbrev pub AreBelow : LateGroups → Side → ℕ → Type 0
AreBelow gs s n =
    (k : RowKey) → All (λ i. i < n) (ids_at gs.groups s k) × All (λ i. i < n) (ids_at gs.gone s k)

-- the ids under each key are as before
pub record KeepsIds (old new : LateGroups) : Type 0 where
  pub ascend : AreAscending new.groups
  pub below : (s : Side) (n : ℕ) → AreBelow old s n → AreBelow new s n
  pub ids : (s : Side) (k : RowKey) → ids_left new s k ≡ ids_left old s k

-- an id is out of those of its side under the keys that pass, and the others are as before
pub record IsTakenOut (old : LateGroups) (side : Side) (passes : Datum → Bool) (id : ℕ)
    (new : LateGroups) : Type 0 where
  pub ascend : AreAscending new.groups
  pub below : (s : Side) (n : ℕ) → (is_side side s ≡ true → id < n) → AreBelow old s n
      → AreBelow new s n
  pub ids : (s : Side) (k : RowKey) → ids_left new s k
      ≡ (if is_side side s && passes (datum k.value)
      then without id (ids_left old s k)
      else ids_left old s k)
