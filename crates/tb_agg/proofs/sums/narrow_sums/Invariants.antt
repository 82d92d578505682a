use Rattle.std.proofs.Common.{◌≡◌, ℤ, length, map}
use Rattle.tb_value.specs.Promise.Pairs.{row_numbers}
use Rattle.tb_chunk.specs.Promise.Col.{values}
use Rattle.tb_rows.specs.Names.{name_of}
use Rattle.tb_rows.specs.Promise.Rows.{row_value}
use Rattle.tb_agg.specs.Promise.Aggregates.{total}
use Rattle.tb_agg.specs.Grouped.{rows_of}
use Rattle.tb_agg.proofs.sums.narrow_sums.Given as goal

abbrev pub invariant-loop-place : goal.invariant-loop-place
invariant-loop-place l = map (λ (z : ℤ). z) l.sums.items ≡ map (λ k. total (map (λ j. row_value (values l.column) (name_of l.names j)) (rows_of l.groups.numbers.items l.place k))) (row_numbers (length l.groups.firsts.items))
