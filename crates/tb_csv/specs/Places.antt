-- The places of a reader in a text.
use Rattle.std.specs.Prelude.{◌≡◌, ◌==◌, ⊤, ℕ, Bool, false, List, [], ◌∷◌, drop}
use Rattle.csv.specs.Machine.{line_feed}
use Rattle.csv.specs.declared.parser.Action.{Action}
use Rattle.csv.specs.declared.parser.State.{State}
use Rattle.csv.specs.declared.parser.State.TheVariants as st
use Rattle.std.specs.List.{list_any}
use Rattle.csv.specs.Reading.{is_bom}
use Rattle.tb_csv.specs.Promise.Records.{Line, ends_field, marked_fields}
use Rattle.tb_csv.specs.declared.marks.Place.{Place}
use Rattle.tb_csv.specs.declared.marks.Place.TheVariants as place

-- the state of the toolchain's reader at a place
abbrev pub state_at : Place → State
state_at place.StartRecord = st.StartRecord
state_at place.StartField = st.StartField
state_at place.InField = st.InField
state_at place.InQuoted = st.InQuoted
state_at place.AfterQuote = st.AfterQuote
state_at place.AfterReturn = st.AfterCr

-- a place and whether a field ends before it are those of a step
abbrev pub IsStep : Place × Bool → State × Action → Type 0
IsStep p s = (state_at p.0 ≡ s.0) × (p.1 ≡ ends_field s.1)

abbrev pub has_quote : List ℕ → Bool
has_quote xs = list_any (λ b. b == 34) xs

-- a byte-order mark stands at the front
abbrev pub has_mark : List ℕ → Bool
has_mark (a ∷ b ∷ c ∷ rest) = is_bom a b c
has_mark _ = false

-- lists of marks from which fields are the same
abbrev pub MarkAlike : List Bool → List Bool → Type 0
MarkAlike ps qs = (n : ℕ) (l : Line) → marked_fields (drop n ps) l ≡ marked_fields (drop n qs) l

-- a text from the end of a line on, or without a byte
abbrev pub IsFromLineEnd : List ℕ → Type 0
IsFromLineEnd [] = ⊤
IsFromLineEnd (c ∷ rest) = c ≡ line_feed
