use Rattle.std.proofs.Common.{◌≡◌, map, take}
use Rattle.std.specs.List.{enumerate_from}
use Rattle.tb_value.specs.SeeKind.{part}
use Rattle.tb_frame.specs.Promise.Table.{table_of}
use Rattle.tb_delta.specs.Inside.{side_state}
use Rattle.tb_delta.specs.Promise.Now.{column_now}
use Rattle.tb_delta.proofs.tables.table_now.Given as goal

abbrev pub invariant-loop-place : goal.invariant-loop-place
invariant-loop-place l = table_of l.columns.items ≡ map (column_now (side_state l.rows).rows) (enumerate_from 0 (take l.place (side_state l.rows).columns))
