use Rattle.std.proofs.Common.{◌≡◌, get_or, map, None}
use Rattle.tb_value.specs.Promise.Pairs.{row_numbers}
use Rattle.tb_build.specs.TableView.{rows_at}
use Rattle.tb_row_join.specs.Lists.{beside, seen}
use Rattle.tb_row_join.proofs.beside.listed_rows.Given as goal

abbrev pub invariant-loop-row : goal.invariant-loop-row
invariant-loop-row g l = seen l.lists.items
    ≡ map (λ p. beside l.how (rows_at g.K.PartialEq.eq g.K.KeyCode.code l.tables (get_or (g.P.KeyList.list l.probed) p None))) (row_numbers l.row)
