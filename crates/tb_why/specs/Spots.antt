-- Places in a JSON value, and what is expected there.
use Rattle.std.specs.Prelude.{ℕ, ◌+◌, ◌-◌, List, [], ◌∷◌, ◌++◌, Bool, if◌then◌else◌, Option, Some, None, option_map, option_and_then, Result, IfOk, ◌≡◌}
use Rattle.tb_value.specs.declared.error.OutOfMemory.{OutOfMemory}
use Rattle.serde_json.specs.Data.{Data}
use Rattle.serde_json.specs.Find.{get}
use Rattle.tb_why.specs.declared.spot.Expected.{Expected}
use Rattle.tb_why.specs.declared.spot.Step.{Step}
use Rattle.tb_why.specs.declared.spot.Step.TheVariants.{Member, Index}
use Rattle.tb_why.specs.declared.spot.Spot as rust

-- the steps to a place, the innermost first, and what is expected there
pub record Spot : Type 0 where
  pub path : List Step
  pub expected : Expected

abbrev pub spot_here : Expected → Option Spot
spot_here e = Some (record { path = []; expected = e })

abbrev pub unless : Bool → Expected → Option Spot
unless b e = if b then None else spot_here e

abbrev pub under : Step → Option Spot → Option Spot
under s None = None
under s (Some p) = Some (record { path = p.path ++ s ∷ []; expected = p.expected })

abbrev pub or_else : Option Spot → Option Spot → Option Spot
or_else None b = b
or_else (Some a) b = Some a

-- what f finds in the member of this name, if there is one
abbrev pub inside : List ℕ → (Data → Option Spot) → Data → Option Spot
inside name f d = under (Member name) (option_and_then f (get name d))

-- the first that f finds in the values, the first of which stands at place i
abbrev pub first_at : {A : Type 0} → (A → Option Spot) → ℕ → List A → Option Spot
first_at f i [] = None
first_at f i (d ∷ ds) = or_else (under (Index i) (f d)) (first_at f (i + 1) ds)

-- the same where f looks at the room that the values before have left, each of which takes its size of it
abbrev pub first_in_room : (Data → ℕ) → (ℕ → Data → Option Spot) → ℕ → ℕ → List Data → Option Spot
first_in_room size f room i [] = None
first_in_room size f room i (d ∷ ds) =
    or_else (under (Index i) (f room d)) (first_in_room size f (room - size d) (i + 1) ds)

abbrev pub spot_view : rust.Spot → Spot
spot_view s = record { path = s.path.items; expected = s.expected }

-- where memory is not wanting, what is found is this
abbrev pub Finds : Result (Option rust.Spot) OutOfMemory → Option Spot → Type 0
Finds result found = IfOk result (λ o. option_map spot_view o ≡ found)
