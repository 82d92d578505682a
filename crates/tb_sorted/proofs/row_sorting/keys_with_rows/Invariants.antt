use Rattle.std.proofs.Common.{◌≡◌, map}
use Rattle.tb_value.specs.Promise.Pairs.{row_numbers}
use Rattle.tb_merge.specs.Keys.{key_at}
use Rattle.tb_sorted.specs.SortedRows.{numbered_keys}
use Rattle.tb_sorted.proofs.row_sorting.keys_with_rows.Given as goal

abbrev pub invariant-loop-row : goal.invariant-loop-row
invariant-loop-row g l = numbered_keys g.N.WholeCell.number l.rows.items ≡ map (λ i. (key_at (g.K.NumberList.keys l.list) i, i)) (row_numbers l.row)
