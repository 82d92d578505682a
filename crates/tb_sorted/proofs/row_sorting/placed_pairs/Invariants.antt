use Rattle.std.proofs.Common.{◌≡◌}
use Rattle.tb_sorted.specs.SortedRows.{numbered_keys, placed}
use Rattle.tb_sorted.proofs.Turned.{mapped_so_far}
use Rattle.tb_sorted.proofs.row_sorting.placed_pairs.Given as goal

abbrev pub invariant-loop-pair : goal.invariant-loop-pair
invariant-loop-pair g l = l.pair-items ≡ mapped_so_far (placed l.side (numbered_keys g.N.WholeCell.number l.rows)) l.pair-index l.fn.pairs.items
