-- Places that need no list.
use Rattle.std.specs.Prelude.{ℕ, ◌*◌, ◌^◌, ◌<◌, ◌≤◌, ◌≡◌, List, length, map, slice_index_or}
use Rattle.tb_value.specs.Promise.Pairs.{row_numbers}
use Rattle.tb_value.specs.declared.limits.TheConstants.{MAX_ROWS}

-- n places from 0 on, each a width behind the one before
abbrev pub even_places : ℕ → ℕ → List ℕ
even_places width n = map (λ i. i * width) (row_numbers n)

-- place i is i times place 1
abbrev pub AreEven : List ℕ → Type 0
AreEven places =
    (i : ℕ) → i < length places → slice_index_or places i 0 ≡ i * slice_index_or places 1 0

-- at most MAX_ROWS gaps of a width lead to a place in 64 bits
pub record IsWidth (width gaps : ℕ) : Type 0 where
  pub few : gaps ≤ MAX_ROWS
  pub within : gaps * width < 2 ^ 64
