use Rattle.std.proofs.Common.{◌≡◌, List, ℕ, Bor, get_or, map, None}
use Rattle.tb_value.specs.Promise.Pairs.{row_numbers}
use Rattle.tb_alone.specs.Tables.{rows_for}
use Rattle.tb_alone.proofs.found.rows_at_each.Given as goal

abbrev pub invariant-loop-row : goal.invariant-loop-row
invariant-loop-row g l = map (λ (r : Bor (List ℕ)). r.now) l.found.items
    ≡ map (λ row. rows_for g.K.PartialEq.eq l.table (get_or (g.L.KeyList.list l.list) row None)) (row_numbers l.row)
