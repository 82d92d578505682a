-- What a step answers and leaves.
use Rattle.std.specs.Prelude.{◌≡◌, ◌<◌, ◌≤◌, ℕ, List, Some, None, Result, Ok, Err}
use Rattle.std.specs.declared.vec.Vec.{Vec}
use Rattle.std.specs.declared.alloc.Global.{Global}
use Rattle.tb_value.specs.Promise.Datum.{Datum}
use Rattle.tb_value.specs.Promise.Typed.{FitsFields}
use Rattle.tb_value.specs.See.{data_of}
use Rattle.tb_value.specs.declared.any_value.AnyValue.{AnyValue}
use Rattle.tb_value.specs.declared.error.Side.{Side}
use Rattle.tb_value.specs.declared.limits.TheConstants.{MAX_ROWS}
use Rattle.tb_delta.specs.Promise.State.{SideState, State, appended, of_side, on_side, row_of, taken_out}
use Rattle.tb_delta.specs.declared.fault.DeltaFault.{DeltaFault}
use Rattle.tb_delta.specs.declared.fault.DeltaFault.TheVariants as fault

-- a side may have one more row
abbrev pub IsRoom : SideState → Type 0
IsRoom s = s.ever < MAX_ROWS

-- a row may be put last: why it may not, in this order
abbrev pub IsChecked : SideState → List Datum → Result (Unit {0}) DeltaFault → Type 0
IsChecked s row (Ok _) = FitsFields s.columns row × IsRoom s
IsChecked s row (Err fault.Schema) = ¬ FitsFields s.columns row
IsChecked s row (Err fault.Full) = FitsFields s.columns row × (MAX_ROWS ≤ s.ever)
IsChecked s row (Err fault.NoRow) = ⊥
IsChecked s row (Err fault.OutOfMemory) = ⊥

abbrev pub IsInserted : State → Side → List Datum → State → Result ℕ DeltaFault → Type 0
IsInserted s side row n (Ok id) = FitsFields (of_side side s).columns row
    × IsRoom (of_side side s)
    × (id ≡ (of_side side s).ever)
    × (n ≡ on_side side (appended row) s)
IsInserted s side row n (Err fault.Schema) = (¬ FitsFields (of_side side s).columns row) × (n ≡ s)
IsInserted s side row n (Err fault.Full) =
    FitsFields (of_side side s).columns row × (MAX_ROWS ≤ (of_side side s).ever) × (n ≡ s)
IsInserted s side row n (Err fault.NoRow) = ⊥
IsInserted s side row n (Err fault.OutOfMemory) =
    FitsFields (of_side side s).columns row × IsRoom (of_side side s) × (n ≡ s)

abbrev pub IsRemoved : State → Side → ℕ → State → Result (Vec AnyValue Global) DeltaFault → Type 0
IsRemoved s side id n (Ok row) =
    (row_of (of_side side s) id ≡ Some (data_of row.items)) × (n ≡ on_side side (taken_out id) s)
IsRemoved s side id n (Err e) = (e ≡ fault.NoRow) × (row_of (of_side side s) id ≡ None) × (n ≡ s)
