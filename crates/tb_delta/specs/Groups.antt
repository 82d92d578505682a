-- The ids under a key.
use Rattle.std.specs.Prelude.{ℕ, ◌<◌, Bool, true, false, not, nat_eq, if◌then◌else◌, List, [], ◌∷◌, filter, AllPairs, Option, Some, None}
use Rattle.std.specs.BTreeMap.{get_by}
use Rattle.std.specs.List.{list_any}
use Rattle.std.specs.declared.cmp.Ordering.{Ordering}
use Rattle.tb_value.specs.See.{datum}
use Rattle.tb_value.specs.declared.error.Side.{Side}
use Rattle.tb_value.specs.declared.error.Side.TheVariants as side
use Rattle.tb_rows.specs.Order.{value_cmp}
pub use Rattle.tb_delta.specs.Keys.{ties}
use Rattle.tb_delta.specs.declared.groups.Group.{Group}
use Rattle.tb_delta.specs.declared.groups.Groups.{Groups}
use Rattle.tb_delta.specs.declared.key.RowKey.{RowKey}

abbrev pub is_side : Side → Side → Bool
is_side side.Left side.Left = true
is_side side.Right side.Right = true
is_side _ _ = false

-- how keys compare
abbrev pub key_cmp : RowKey → RowKey → Ordering
key_cmp a b = value_cmp (datum a.value) (datum b.value)

-- the ids of a side in a group
abbrev pub side_ids : Side → Group → List ℕ
side_ids side.Left g = g.left.items
side_ids side.Right g = g.right.items

abbrev pub ids_in : Side → Option Group → List ℕ
ids_in s None = []
ids_in s (Some g) = side_ids s g

-- the ids of a side's rows that have the key
abbrev pub ids_at : Groups → Side → RowKey → List ℕ
ids_at gs s k = ids_in s (get_by (key_cmp k) gs.groups)

-- all but one
abbrev pub without : ℕ → List ℕ → List ℕ
without id ids = filter (λ i. not (nat_eq id i)) ids

-- all but those of a list
abbrev pub without_all : List ℕ → List ℕ → List ℕ
without_all gone ids = filter (λ i. not (list_any (nat_eq i) gone)) ids

-- all but one, where it is taken out
abbrev pub without_where : Bool → ℕ → List ℕ → List ℕ
without_where is_out id ids = (if is_out then without_all (id ∷ []) ids else ids)

abbrev pub IsAscending : List ℕ → Type 0
IsAscending ids = AllPairs ◌<◌ ids

abbrev pub AreAscending : Groups → Type 0
AreAscending gs = (s : Side) (k : RowKey) → IsAscending (ids_at gs s k)
