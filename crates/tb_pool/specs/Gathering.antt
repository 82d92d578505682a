-- What is known while the workers' seats, lists and results are put together, and at the end.
use Rattle.std.specs.Prelude.{◌≡◌, ℕ, ◌<◌, ◌≤◌, List, map, length, sum_by, slice_index_or, Option, Some, All, AllPairs}
use Rattle.std.specs.List.{Contains}
use Rattle.tb_pool.specs.Core.{times, once_below}
use Rattle.tb_pool.specs.Running.{ClaimsView, SeatView, IsSeatOf}
use Rattle.tb_pool.specs.DoneView.{DoneView}

module _ {O : Type 0} where
  -- each part below n has its place, with a result that was found for it
  pub record ArePlaced (n : ℕ) (found : List (ℕ × O)) (places : List (Option O)) : Type 0 where
    pub count : length places ≡ n
    pub each : (part : ℕ) (d : Option O) → part < n →
        (out : O) × Contains found (part, out) × (slice_index_or places part d ≡ Some out)

  -- there is one result for each part below n, at the part's place, and it was found for it
  pub record AreInOrder (n : ℕ) (found : List (ℕ × O)) (results : List O) : Type 0 where
    pub count : length results ≡ n
    pub each : (part : ℕ) (d : O) → part < n → Contains found (part, slice_index_or results part d)

-- each number is below every later one
abbrev pub Ascend : List ℕ → Type 0
Ascend xs = AllPairs (λ x y. x < y) xs

module _ {O : Type 0} (R : ℕ → O → Type 0) where
  -- The seat has drawn the parts that are found, and beside them only numbers of at least the bound, at least one. The
  -- lists hold the parts that are found, each list ascending, and each result is one that its part gives
  pub record IsGathered (c : ClaimsView) (seat : SeatView) (lists : List (List ℕ))
      (found : List (ℕ × O)) : Type 0 where
    pub own : IsSeatOf c seat
    pub drawn : (x : ℕ) → x < c.bound → times x seat.drawn ≡ times x (map (λ p. p.0) found)
    pub late_one : (x : ℕ) × (c.bound ≤ x) × (0 < times x seat.drawn)
    pub below : All (λ p. p.0 < c.bound) found
    pub given : All (λ p. R p.0 p.1) found
    pub listed : (x : ℕ) → sum_by (λ l. times x l) lists ≡ times x (map (λ p. p.0) found)
    pub ascend : All Ascend lists

  -- There are n results, each at the place of its part and one that the part gives. There is a list for each worker,
  -- which ascends, and in all lists together each part below n stands once and no other number does
  pub record IsDone (n workers : ℕ) (d : DoneView O) : Type 0 where
    pub count : length d.results ≡ n
    pub each : (part : ℕ) (x : O) → part < n → R part (slice_index_or d.results part x)
    pub lists : length d.claimed ≡ workers
    pub ascend : All Ascend d.claimed
    pub claimed_once : (x : ℕ) → sum_by (λ l. times x l) d.claimed ≡ once_below x n
