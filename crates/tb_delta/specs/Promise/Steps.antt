-- Lists of steps: which are accepted, what they make of a state, and what they tell.
use Rattle.std.specs.Prelude.{◌≡◌, ◌<◌, ◌≤◌, ℕ, List, [], ◌∷◌, IsSome, Option, None, unwrap_or}
use Rattle.tb_value.specs.Promise.Datum.{Datum}
use Rattle.tb_value.specs.Promise.Typed.{FitsFields}
use Rattle.tb_value.specs.declared.error.Side.{Side}
use Rattle.tb_value.specs.declared.limits.TheConstants.{MAX_ROWS}
use Rattle.tb_delta.specs.Promise.Now.{partners}
use Rattle.tb_delta.specs.Promise.State.{SideState, State, appended, of_side, on_side, row_of, taken_out}
use Rattle.tb_delta.specs.declared.fault.DeltaFault.{DeltaFault}
use Rattle.tb_delta.specs.declared.fault.DeltaFault.TheVariants as fault

-- a row is put last on a side, or the row of an id taken out
pub data Step : Type 0 where
  insert : Side → List Datum → Step
  remove : Side → ℕ → Step

abbrev pub stepped : State → Step → State
stepped s (insert side row) = on_side side (appended row) s
stepped s (remove side id) = on_side side (taken_out id) s

-- a row that fits is put where there is room, and a row that is there is taken out
abbrev pub IsAccepted : State → Step → Type 0
IsAccepted s (insert side row) =
    FitsFields (of_side side s).columns row × ((of_side side s).ever < MAX_ROWS)
IsAccepted s (remove side id) = IsSome (row_of (of_side side s) id)

-- why a step is not done; memory may be wanting for one that is accepted, or for telling what it tells
abbrev pub IsRefusedFor : State → Step → DeltaFault → Type 0
IsRefusedFor s (insert side row) fault.Schema = ¬ FitsFields (of_side side s).columns row
IsRefusedFor s (insert side row) fault.Full =
    FitsFields (of_side side s).columns row × (MAX_ROWS ≤ (of_side side s).ever)
IsRefusedFor s (insert side row) fault.NoRow = ⊥
IsRefusedFor s (insert side row) fault.OutOfMemory =
    FitsFields (of_side side s).columns row × ((of_side side s).ever < MAX_ROWS)
IsRefusedFor s (remove side id) fault.NoRow = row_of (of_side side s) id ≡ None
IsRefusedFor s (remove side id) fault.OutOfMemory = Unit {0}
IsRefusedFor s (remove side id) fault.Schema = ⊥
IsRefusedFor s (remove side id) fault.Full = ⊥

-- the partners that a step tells: of a new row when it is there, of an old one before it goes
abbrev pub told : State → Step → List ℕ
told s (insert side row) =
    unwrap_or (partners (on_side side (appended row) s) side (of_side side s).ever) []
told s (remove side id) = unwrap_or (partners s side id) []

-- ALL STEPS IN ORDER

-- the state behind them
abbrev pub after : State → List Step → State
after s [] = s
after s (x ∷ xs) = after (stepped s x) xs

abbrev pub AreAccepted : State → List Step → Type 0
AreAccepted s [] = Unit {0}
AreAccepted s (x ∷ xs) = IsAccepted s x × AreAccepted (stepped s x) xs

-- what each of them tells
abbrev pub told_each : State → List Step → List (List ℕ)
told_each s [] = []
told_each s (x ∷ xs) = told s x ∷ told_each (stepped s x) xs
