-- The claims as they run: the rule of the one word, what a step on it does, and what contracts see.
use Rattle.std.specs.Prelude.{◌≡◌, ℕ, ◌+◌, ◌-◌, ◌^◌, ◌<◌, List, [], ◌∷◌, ◌++◌, slice_index, All}
use Rattle.atomic_table.specs.Table.{State as TableState, Me}
use Rattle.atomic_table.specs.Seated.{TableId}
use Rattle.tb_pool.specs.declared.seat.Seat.{Seat}
use Rattle.tb_pool.specs.Core.{seat_with, state, StateRule}

-- `Claims` as contracts see it: which claims these are, and how many parts there are
pub record ClaimsView : Type 0 where
  pub of : TableId
  pub bound : ℕ

-- `ClaimSeat` as contracts see it: of which claims it is, the numbers that it has drawn, and its weight
pub record SeatView : Type 0 where
  pub of : TableId
  pub bound : ℕ
  pub drawn : List ℕ
  pub weight : ℕ

-- the seat is one of these claims
abbrev pub IsSeatOf : ClaimsView → SeatView → Type 0
IsSeatOf c s = (s.of ≡ c.of) × (s.bound ≡ c.bound)

-- the word is the number that is drawn next, the views are the seats, and together they are a state that keeps the rule
abbrev pub WordRule : {S : Type 0} → ℕ → TableState S Seat → Type 0
WordRule n s = (n < 2 ^ 32)
    × (s.words ≡ slice_index s.words 0 ∷ [])
    × StateRule n (state (slice_index s.words 0) s.views)

-- the seat has drawn the number that it found, which is greater than each that it had drawn
abbrev pub Drew : {S : Type 0} → Me S Seat → ℕ → Me S Seat → Type 0
Drew me found after =
    (after.0 ≡ seat_with (me.0.drawn ++ found ∷ []) me.0.weight) × (after.1 ≡ me.1)
    × All (λ y. y < found) me.0.drawn

-- the seat after it gave a weight of 1 away
abbrev pub lighter_seat : Seat → Seat
lighter_seat h = seat_with h.drawn (h.weight - 1)

-- the first seat after it took the second in
abbrev pub joined_seat : Seat → Seat → Seat
joined_seat h g = seat_with (h.drawn ++ g.drawn) (h.weight + g.weight)
