use Rattle.std.proofs.Common.{◌≡◌, ℕ, length, map}
use Rattle.tb_value.specs.Promise.Pairs.{row_numbers}
use Rattle.tb_agg.specs.Grouped.{rows_of}
use Rattle.tb_agg.proofs.counts.counts_of.Given as goal

abbrev pub invariant-loop-place : goal.invariant-loop-place
invariant-loop-place l = map (λ (n : ℕ). n) l.counts.items ≡ map (λ k. length (rows_of l.groups.numbers.items l.place k)) (row_numbers (length l.groups.firsts.items))
