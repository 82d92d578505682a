-- Claims as plain data: seats draw numbers from one counter, and what may happen to them.
use Rattle.std.specs.Prelude.{◌≡◌, ◌≢◌, ℕ, ◌+◌, ◌-◌, ◌<◌, ◌≤◌, ◌==◌, nat_le, nat_lt, cond, List, [], ◌∷◌, ◌++◌, sum_by, count_by, slice_set}
use mathlib.Core.Option.{some}
use lib.ListN.{get_elem?}
use Rattle.tb_pool.specs.declared.seat.Seat.{Seat}

-- the seat that has drawn these numbers and has this weight
abbrev pub seat_with : List ℕ → ℕ → Seat
seat_with drawn weight = record { drawn = drawn; weight = weight }

-- how often x stands in a list
abbrev pub times : ℕ → List ℕ → ℕ
times x xs = count_by (λ y. y == x) xs

-- how many numbers of a list are at least n, which are those past the parts 0 to n - 1
abbrev pub late_count : ℕ → List ℕ → ℕ
late_count n xs = count_by (λ y. nat_le n y) xs

-- 1 for a number below the bound, else 0
abbrev pub once_below : ℕ → ℕ → ℕ
once_below x bound = cond (nat_lt x bound) 1 0

-- a number of at least n stands in the list
abbrev pub IsPast : ℕ → List ℕ → Type 0
IsPast n drawn = 0 < late_count n drawn

-- the number that is drawn next, and all seats
pub record State : Type 0 where
  pub next : ℕ
  pub seats : List Seat

abbrev pub state : ℕ → List Seat → State
state next seats = record { next = next; seats = seats }

-- where all begins: nothing is drawn, and one seat has the weight 1,024
abbrev pub opening : State
opening = state 0 (seat_with [] 1024 ∷ [])

-- Seats are named by their places: seat w claims a number, seat w gives a part of its weight to a new seat, and
-- seat v takes seat w in
pub data Event : Type 0 where
  claim : ℕ → Event
  split : ℕ → Event
  join : ℕ → ℕ → Event

-- this seat stands at place w, and it is not spent
abbrev pub HasSeat : State → ℕ → Seat → Type 0
HasSeat s w h = (get_elem? s.seats w ≡ some h) × (0 < h.weight)

-- The event leads from s to t, where n is the bound. A seat claims or is split only while it is not past. A joined
-- seat is spent: it has the empty list and the weight 0
abbrev pub Happens : ℕ → State → Event → State → Type 0
Happens n s (claim w) t = (h : Seat) × HasSeat s w h × ¬ (IsPast n h.drawn)
    × (t ≡ state (s.next + 1) (slice_set s.seats w (seat_with (h.drawn ++ s.next ∷ []) h.weight)))
Happens n s (split w) t = (h : Seat) × HasSeat s w h × ¬ (IsPast n h.drawn) × (2 ≤ h.weight)
    × (t
    ≡ state s.next
    (slice_set s.seats w (seat_with h.drawn (h.weight - 1)) ++ seat_with [] 1 ∷ []))
Happens n s (join v w) t = (h : Seat) × (g : Seat) × HasSeat s v h × HasSeat s w g × (v ≢ w)
    × (t ≡ state s.next
    (slice_set (slice_set s.seats v (seat_with (h.drawn ++ g.drawn) (h.weight + g.weight))) w
    (seat_with [] 0)))

-- the events lead from s to t
abbrev pub Follows : ℕ → State → List Event → State → Type 0
Follows n s [] t = s ≡ t
Follows n s (e ∷ es) t = (u : State) × Happens n s e u × Follows n u es t

-- the fact holds of every seat
abbrev pub EachSeat : (Seat → Type 0) → List Seat → Type 0
EachSeat P seats = (w : ℕ) (h : Seat) → get_elem? seats w ≡ some h → P h

-- What holds after any events. In the seats' lists each number below `next` stands once and no other number does; a
-- seat has at most as many numbers of at least n as its weight, and none unless it is past; the weights sum to 1,024;
-- so `next` is bounded
pub record IsSound (n : ℕ) (s : State) : Type 0 where
  pub each_once : (x : ℕ) → sum_by (λ h. times x h.drawn) s.seats ≡ once_below x s.next
  pub few_late : EachSeat (λ h. late_count n h.drawn ≤ h.weight) s.seats
  pub none_late : EachSeat (λ h. ¬ (IsPast n h.drawn) → late_count n h.drawn ≡ 0) s.seats
  pub whole : sum_by (λ h. h.weight) s.seats ≡ 1024
  pub bounded : s.next ≤ n + 1024

-- What every event keeps. It says the same, and that a spent seat has an empty list. Its bound on `next` counts the
-- numbers that were drawn past n
pub record StateRule (n : ℕ) (s : State) : Type 0 where
  pub each_once : (x : ℕ) → sum_by (λ h. times x h.drawn) s.seats ≡ once_below x s.next
  pub few_late : EachSeat (λ h. late_count n h.drawn ≤ h.weight) s.seats
  pub whole : sum_by (λ h. h.weight) s.seats ≡ 1024
  pub spent : EachSeat (λ h. h.weight ≡ 0 → h.drawn ≡ []) s.seats
  pub counted : s.next ≤ n + sum_by (λ h. late_count n h.drawn) s.seats
