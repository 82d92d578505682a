use Rattle.std.proofs.Common.{◌≡◌, ℕ, Option, length, map}
use Rattle.std.specs.List.{All}
use Rattle.tb_value.specs.Promise.Pairs.{row_numbers}
use Rattle.tb_chunk.specs.Promise.Col.{values}
use Rattle.tb_chunk.specs.Rows.{IsRowOf}
use Rattle.tb_rows.specs.Names.{name_of}
use Rattle.tb_agg.specs.Grouped.{rows_of}
use Rattle.tb_agg.specs.Picking.{picked_row}
use Rattle.tb_agg.proofs.picks.picked_rows.Given as goal

abbrev pub invariant-loop-place : goal.invariant-loop-place
invariant-loop-place l = record {
  picked : map (λ (o : Option ℕ). o) l.picked.items ≡ map (λ k. picked_row l.pick (values l.column) (map (name_of l.names) (rows_of l.groups.numbers.items l.place k))) (row_numbers (length l.groups.firsts.items));
  within : All (IsRowOf (length (values l.column))) l.picked.items;
}
