use Rattle.std.proofs.Common.{◌≡◌, filter, map, not, ◌&&◌, ◌==◌, take}
use Rattle.tb_chunk.specs.Promise.Col.{values}
use Rattle.tb_frame.specs.Promise.Table.{plain_column, table_of}
use Rattle.tb_rows.specs.Promise.Rows.{row_value}
use Rattle.tb_dummies.specs.Promise.Dummies.{dummy}
use Rattle.tb_dummies.proofs.columns.dummies_by_row.Given as goal

abbrev pub invariant-loop-group : goal.invariant-loop-group
invariant-loop-group l =
    table_of l.made.items ≡ map (λ i. dummy l.separator (plain_column l.column) (row_value (values l.column) i)) (filter (λ i. not (l.drop_first && i == 0)) (take l.group l.firsts))
