use Rattle.std.proofs.Common.{◌≡◌, ◌≤ℤ◌, pos, neg_ℤ, length, map}
use Rattle.std.specs.List.{All}
use Rattle.tb_value.specs.Promise.Pairs.{row_numbers}
use Rattle.tb_chunk.specs.Promise.Col.{values}
use Rattle.tb_rows.specs.Names.{name_of}
use Rattle.tb_rows.specs.Promise.Rows.{row_value}
use Rattle.tb_agg.specs.Promise.Aggregates.{total}
use Rattle.tb_agg.specs.Grouped.{rows_of}
use Rattle.tb_agg.specs.Running.{sum_so_far}
use Rattle.tb_agg.proofs.sums.wide_sums.Given as goal

abbrev pub invariant-loop-place : goal.invariant-loop-place
invariant-loop-place l = record {
  totals : map sum_so_far l.sums.items ≡ map (λ k. total (map (λ j. row_value (values l.column) (name_of l.names j)) (rows_of l.groups.numbers.items l.place k))) (row_numbers (length l.groups.firsts.items));
  down : All (λ r. neg_ℤ (pos l.place) ≤ℤ r.wraps) l.sums.items;
  up : All (λ r. r.wraps ≤ℤ pos l.place) l.sums.items;
}
