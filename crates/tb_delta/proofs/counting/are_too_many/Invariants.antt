use Rattle.std.proofs.Common.{◌≡◌, ◌+◌, ◌≤◌, length}
use Rattle.std.specs.Prelude.{sum_by}
use Rattle.std.specs.BTreeMap.{values}
use Rattle.tb_value.specs.declared.error.Side.TheVariants as side
use Rattle.tb_value.specs.declared.limits.TheConstants.{MAX_ROWS}
use Rattle.tb_delta.specs.Groups.{ids_at}
use Rattle.tb_delta.specs.declared.side_rows.StoredRow.{StoredRow}
use Rattle.tb_delta.proofs.counting.are_too_many.Given as goal

abbrev pub invariant-loop-row : goal.invariant-loop-row
invariant-loop-row l =
    (l.pairs + sum_by (λ (s : StoredRow). length (ids_at l.groups side.Right s.key)) l.row-iterator ≡ sum_by (λ (s : StoredRow). length (ids_at l.groups side.Right s.key)) (values l.left.rows))
    × (l.pairs ≤ MAX_ROWS)
