-- The keys of rows, one behind another in one list of bytes.
use Rattle.std.specs.Prelude.{◌<◌, ◌≤◌, ◌+◌, ◌-◌, ◌^◌, ℕ, List, [], ◌∷◌, length, map, take, drop, slice_index_or, Option, Some, None}
use Rattle.tb_value.specs.Promise.Datum.{Datum, binary}
use Rattle.tb_value.specs.Promise.Pairs.{row_numbers}
use Rattle.tb_value.specs.declared.limits.TheConstants.{MAX_ROWS}

-- the bytes of a key, of which an absent one has none
abbrev pub bytes_of : Datum → List ℕ
bytes_of (binary s) = s
bytes_of _ = []

-- no bytes are no key
abbrev pub key_of : List ℕ → Option (List ℕ)
key_of [] = None
key_of (b ∷ bs) = Some (b ∷ bs)

-- row i has the bytes from place i to the next place
abbrev pub bytes_at : List ℕ → List ℕ → ℕ → List ℕ
bytes_at bytes places i = take (slice_index_or places (i + 1) 0 - slice_index_or places i 0)
    (drop (slice_index_or places i 0) bytes)

-- the keys of all rows, of which there is one fewer than places
abbrev pub keys_in : List ℕ → List ℕ → List (Option (List ℕ))
keys_in bytes places = map (λ i. key_of (bytes_at bytes places i)) (row_numbers (length places - 1))

-- the places of at most MAX_ROWS rows ascend within the bytes, and each row has fewer than 2^32 bytes
pub record ArePlaces (bytes places : List ℕ) : Type 0 where
  pub some : 1 ≤ length places
  pub few : length places ≤ MAX_ROWS + 1
  pub ordered : (i : ℕ) → i + 1 < length places
      → slice_index_or places i 0 ≤ slice_index_or places (i + 1) 0
  pub within : (i : ℕ) → i < length places → slice_index_or places i 0 ≤ length bytes
  pub short : (i : ℕ) → i + 1 < length places
      → slice_index_or places (i + 1) 0 < slice_index_or places i 0 + 2 ^ 32
