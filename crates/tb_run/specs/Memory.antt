-- What the ends in memory hold.
use Rattle.std.specs.Prelude.{ℕ, ◌+◌, List, nat_lt, if◌then◌else◌}
use Rattle.tb_run.specs.Ends.{last_count}

-- one more, up to the last count
abbrev pub next_count : ℕ → ℕ
next_count n = if nat_lt n last_count then n + 1 else n

-- the numbers of the calls that fail, and how many were made and have failed
pub record Plan : Type 0 where
  pub failing : List ℕ
  pub calls : ℕ
  pub faults : ℕ

-- a source: the bytes still to come
pub record SourceState : Type 0 where
  pub bytes : List ℕ
  pub plan : Plan

-- a sink: what was taken, and how many bytes it can take
pub record SinkState : Type 0 where
  pub bytes : List ℕ
  pub room : ℕ
  pub plan : Plan
