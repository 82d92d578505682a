-- What contracts see of an `Exec`: the numbers by which work is run.
use Rattle.std.specs.Prelude.{ℕ}

-- how many workers and partitions there are, below how many rows a table is small, and a factor num / den
pub record ExecView : Type 0 where
  pub workers : ℕ
  pub partitions : ℕ
  pub small : ℕ
  pub num : ℕ
  pub den : ℕ
