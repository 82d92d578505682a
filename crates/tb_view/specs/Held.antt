-- Where the buffers of chunks stand among those of a chunk that takes up their rows.
use Rattle.std.specs.Prelude.{◌≡◌, ◌<◌, ◌≤◌, ◌+◌, ℕ, List, [], Option, IfSome, length, slice_index_or, unwrap_or}
use Rattle.tb_view.specs.Moved.{used_buffer}
use Rattle.tb_view.specs.declared.view.View.{View}

-- the buffers stand among all, one after the other, from number base on
pub record Holds (all : List (List ℕ)) (base : ℕ) (bs : List (List ℕ)) : Type 0 where
  pub within : base + length bs ≤ length all
  pub same : (k : ℕ) → k < length bs → slice_index_or all (base + k) [] ≡ slice_index_or bs k []

-- those of each chunk stand among all from its base on
pub record AreHeld (all : List (List ℕ)) (bases : List ℕ)
    (lists : List (List (List ℕ))) : Type 0 where
  pub whole : length bases ≡ length lists
  pub each : (k : ℕ) → k < length lists
      → Holds all (slice_index_or bases k 0) (slice_index_or lists k [])

-- the buffer of a row's long text, one of these, stands among all under this number, under its own where there is none
abbrev pub StandsAt : List (List ℕ) → Option ℕ → List (List ℕ) → Option View → Type 0
StandsAt all number bs o = IfSome (used_buffer o) (λ b.
    b < length bs
    → (unwrap_or number b < length all)
    × (slice_index_or all (unwrap_or number b) [] ≡ slice_index_or bs b []))
