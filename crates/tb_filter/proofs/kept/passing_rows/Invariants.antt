use Rattle.std.proofs.Common.{◌≡◌, map, get_or}
use Rattle.std.specs.Prelude.{filter}
use Rattle.tb_value.specs.Promise.Datum.{null}
use Rattle.tb_value.specs.Promise.Pairs.{left_only, row_numbers}
use Rattle.tb_chunk.specs.Promise.Col.{values}
use Rattle.tb_filter.specs.Promise.Filtered.{passes}
use Rattle.tb_filter.specs.Seen.{check_of}
use Rattle.tb_filter.proofs.kept.passing_rows.Given as goal

-- the rows so far that pass
abbrev pub invariant-loop-row : goal.invariant-loop-row
invariant-loop-row l = l.rows.items ≡ map left_only (filter (λ i. passes (check_of l.test) (get_or (values l.column) i null)) (row_numbers l.row))
