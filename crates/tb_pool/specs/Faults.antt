-- Why numbers make no `Exec`.
use Rattle.std.specs.Prelude.{◌≡◌, ℕ}
use Rattle.tb_pool.specs.ExecView.{MayCount}
use Rattle.tb_pool.specs.declared.exec.ExecFault.{ExecFault}
use Rattle.tb_pool.specs.declared.exec.ExecFault.TheVariants.{BadWorkers, BadPartitions, BadFactor}

-- the first fault of these numbers, where those before it are none
abbrev pub IsFirstFault : ExecFault → ℕ → ℕ → ℕ → Type 0
IsFirstFault BadWorkers workers partitions den = ¬ (MayCount workers)
IsFirstFault BadPartitions workers partitions den = MayCount workers × ¬ (MayCount partitions)
IsFirstFault BadFactor workers partitions den = MayCount workers × MayCount partitions × (den ≡ 0)
