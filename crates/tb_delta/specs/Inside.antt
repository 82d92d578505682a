-- What a view keeps, and what it stands for.
use Rattle.std.specs.Prelude.{◌≢◌, ◌≡◌, ◌<◌, ◌≤◌, ℕ, Bool, false, ◌||◌, List, [], All, AllPairs, filter, map, position, slice_index_or, unwrap_or, Option, Some, None}
use Rattle.tb_value.specs.Promise.Datum.{Datum, null, is_present}
use Rattle.tb_value.specs.Promise.Kind.{Kind}
use Rattle.tb_value.specs.Promise.Names.{Name, same_name}
use Rattle.tb_value.specs.Promise.Same.{agrees}
use Rattle.tb_value.specs.Promise.Typed.{FitsFields}
use Rattle.tb_value.specs.See.{datum, data_of}
use Rattle.tb_value.specs.SeeKind.{part}
use Rattle.tb_value.specs.declared.error.Side.{Side}
use Rattle.tb_value.specs.declared.limits.TheConstants.{MAX_ROWS}
use Rattle.tb_delta.specs.Promise.Now.{view_refusal}
use Rattle.tb_delta.specs.Promise.State.{Row, SideState, State, of_side}
use Rattle.tb_delta.specs.Groups.{ids_at}
use Rattle.tb_delta.specs.declared.groups.Groups.{Groups}
use Rattle.tb_delta.specs.declared.key.RowKey.{RowKey}
use Rattle.tb_delta.specs.declared.side_rows.SideRows.{SideRows}
use Rattle.tb_delta.specs.declared.side_rows.StoredRow.{StoredRow}

-- KEYS

-- the place of the key among the columns
abbrev pub place_of : List (Name × Kind) → Name → Option ℕ
place_of columns key = position (λ (c : Name × Kind). same_name c.0 key) columns

abbrev pub key_of : SideState → List Datum → Datum
key_of s row = slice_index_or row (unwrap_or (place_of s.columns s.key) 0) null

-- whether a row with the key is in a group: Null is only where Nulls match
abbrev pub is_grouped : Bool → Datum → Bool
is_grouped nulls v = nulls || is_present v

-- the ids of the rows whose key agrees with a value
abbrev pub agreeing : Bool → SideState → Datum → List ℕ
agreeing nulls s k =
    map (λ (r : Row). r.0) (filter (λ (r : Row). agrees nulls (key_of s r.1) k) s.rows)

-- whether the key of a row that is taken out agrees with a value
abbrev pub pulled_agrees : Bool → SideState → Option (List Datum) → Datum → Bool
pulled_agrees nulls s None k = false
pulled_agrees nulls s (Some row) k = agrees nulls (key_of s row) k

-- WHAT THE CODE STANDS FOR

abbrev pub stored : ℕ × StoredRow → Row
stored e = (e.0, data_of e.1.values.items)

abbrev pub side_state : SideRows → SideState
side_state s = record {
  columns = map part s.columns.items;
  key = s.on;
  rows = map stored s.rows.entries;
  ever = s.ever;
}

-- the same sides without rows
abbrev pub no_rows : SideState → SideState
no_rows s = record s { rows = [] }

abbrev pub emptied : State → State
emptied s = record s { left = no_rows s.left; right = no_rows s.right }

-- WHAT IS KEPT

-- ids ascend and are below the next one, each row has a value of each column's type, and the columns' names are distinct
pub record AreRows (s : SideState) : Type 0 where
  pub ascend : AllPairs (λ (a b : Row). a.0 < b.0) s.rows
  pub below : All (λ (r : Row). r.0 < s.ever) s.rows
  pub few : s.ever ≤ MAX_ROWS
  pub typed : All (λ (r : Row). FitsFields s.columns r.1) s.rows
  pub distinct : AllPairs (λ (a b : Name). a ≢ b) (map (λ (c : Name × Kind). c.0) s.columns)

-- the key that stands beside a row is that of the row
abbrev pub IsKeyed : SideState → ℕ × StoredRow → Type 0
IsKeyed s e = datum e.1.key.value ≡ key_of s (data_of e.1.values.items)

-- the key stands at its place, in the columns and in each row
pub record IsPlaced (rows : SideRows) : Type 0 where
  pub place : place_of (side_state rows).columns (side_state rows).key ≡ Some rows.key
  pub keyed : All (IsKeyed (side_state rows)) rows.rows.entries

-- the ids under each key are those of the rows whose key agrees
abbrev pub AreGrouped : State → (Side → RowKey → List ℕ) → Type 0
AreGrouped s ids = (side : Side) (k : RowKey)
    → ids side k ≡ agreeing s.join_nulls (of_side side s) (datum k.value)

pub record IsKept (s : State) (ids : Side → RowKey → List ℕ) : Type 0 where
  pub left : AreRows s.left
  pub right : AreRows s.right
  pub grouped : AreGrouped s ids
  pub valid : view_refusal (emptied s) ≡ None

-- the state of a view's parts
abbrev pub state_of : SideRows → SideRows → Bool → State
state_of left right join_nulls =
    record { left = side_state left; right = side_state right; join_nulls = join_nulls }

pub record IsView (left right : SideRows) (join_nulls : Bool) (gs : Groups) : Type 0 where
  pub kept : IsKept (state_of left right join_nulls) (ids_at gs)
  pub left_placed : IsPlaced left
  pub right_placed : IsPlaced right
