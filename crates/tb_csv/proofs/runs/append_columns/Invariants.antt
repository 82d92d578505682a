use Rattle.tb_csv.proofs.JoinedColumns.{AreAppendedTo}
use Rattle.tb_csv.proofs.runs.append_columns.Given as goal

abbrev pub invariant-loop-place : goal.invariant-loop-place
invariant-loop-place l = AreAppendedTo l.initial.column-items l.others l.place l.column-items
