-- The sums of groups that are kept.
use Rattle.std.specs.Prelude.{ℤ, List, map}
use Rattle.tb_agg.specs.Running.{sum_so_far}
use Rattle.tb_agg.specs.declared.sums.Sums.{Sums}
use Rattle.tb_agg.specs.declared.sums.Sums.TheVariants.{Narrow, Wide}

-- the numbers that they are
abbrev pub shown_sums : Sums → List ℤ
shown_sums (Narrow sums) = sums.items
shown_sums (Wide sums) = map sum_so_far sums.items
