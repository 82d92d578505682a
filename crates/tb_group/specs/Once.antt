-- Aggregates that are made once, however often they are asked for.
use Rattle.std.specs.Prelude.{◌≡◌, ℕ, ◌<◌, ◌⊎◌, List, [], ◌∷◌, ◌++◌, length, slice_index_or}
use Rattle.std.specs.List.{All, Contains}
use Rattle.tb_group.specs.declared.lookup.AskedColumn.{AskedColumn}
use Rattle.tb_group.specs.declared.once.Once.{Once}

-- one aggregate, of columns of one name
pub record AreAlike (a b : AskedColumn) : Type 0 where
  pub agg : a.asked.now.agg ≡ b.asked.now.agg
  pub source : a.asked.now.column ≡ b.asked.now.column

-- at a place stands one that is alike
abbrev pub IsAlikeAt : List AskedColumn → ℕ → AskedColumn → Type 0
IsAlikeAt made seat a = (seat < length made) × AreAlike (slice_index_or made seat a) a

-- an aggregate has its place among those that are made: one that is alike stands there, or it was put behind them
abbrev pub IsSeated : List AskedColumn → List AskedColumn → AskedColumn → ℕ → Type 0
IsSeated old new a seat =
    ((new ≡ old) × IsAlikeAt old seat a) ⊎ ((new ≡ old ++ a ∷ []) × (seat ≡ length old))

-- of so many that are asked for: those that are made are asked for, and each of them has the place of one that is alike
pub record AreOnceTo (asked : List AskedColumn) (n : ℕ) (made : List AskedColumn)
    (seats : List ℕ) : Type 0 where
  pub from : All (Contains asked) made
  pub many : length seats ≡ n
  pub each : (k : ℕ) (a : AskedColumn) → k < n → a ≡ slice_index_or asked k a
      → IsAlikeAt made (slice_index_or seats k 0) a

-- of all that are asked for
abbrev pub AreOnce : List AskedColumn → Once → Type 0
AreOnce asked o = AreOnceTo asked (length asked) o.made.items o.seats.items
