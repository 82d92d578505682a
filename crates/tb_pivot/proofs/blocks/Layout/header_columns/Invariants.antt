use Rattle.std.proofs.Common.{◌≡◌, map}
use Rattle.tb_value.specs.Promise.Pairs.{row_numbers}
use Rattle.tb_frame.specs.Promise.Table.{table_of}
use Rattle.tb_pivot.specs.Layout.{header_column}
use Rattle.tb_pivot.proofs.blocks.Layout.header_columns.Given as goal

abbrev pub invariant-loop-header : goal.invariant-loop-header
invariant-loop-header l = table_of l.columns.items ≡ map (header_column l.self l.value l.made) (row_numbers l.header)
