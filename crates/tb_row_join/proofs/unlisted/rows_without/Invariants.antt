use Rattle.std.proofs.Common.{◌≡◌, None, get_or}
use Rattle.std.specs.Prelude.{filter}
use Rattle.tb_value.specs.Promise.Pairs.{row_numbers}
use Rattle.tb_build.specs.TableView.{rows_at}
use Rattle.tb_row_join.specs.Lists.{is_bare}
use Rattle.tb_row_join.proofs.unlisted.rows_without.Given as goal

abbrev pub invariant-loop-row : goal.invariant-loop-row
invariant-loop-row g l = l.rows.items
    ≡ filter (λ k. is_bare (rows_at g.K.PartialEq.eq g.K.KeyCode.code l.tables (get_or (g.B.KeyList.list l.built) k None))) (row_numbers l.row)
