use Rattle.std.proofs.Common.{◌≡◌}
use Rattle.std.specs.List.{All, enumerate_from}
use Rattle.std.specs.Map.{keys_of}
use Rattle.std.specs.Prelude.{map}
use Rattle.tb_value.specs.Promise.Pairs.{row_numbers}
use Rattle.tb_frame.specs.Promise.Table.{row_at, table_of}
use Rattle.tb_delta.specs.Inside.{stored}
use Rattle.tb_delta.specs.TakenUp.{HasKeyAt}
use Rattle.tb_delta.proofs.taking_up.listed_rows.Given as goal

abbrev pub invariant-loop-row : goal.invariant-loop-row
invariant-loop-row l =
    (map stored l.listed.items ≡ enumerate_from 0 (map (row_at (table_of l.frame)) (row_numbers l.row)))
    × (keys_of l.listed.items ≡ row_numbers l.row)
    × All (HasKeyAt l.key) l.listed.items
