use Rattle.tb_chunk.specs.Promise.Col.{values}
use Rattle.tb_group_front.specs.Keyed.{AreFirst}
use Rattle.tb_group_front.proofs.keyed.rows_beside.Given as goal

abbrev pub invariant-loop-row : goal.invariant-loop-row
invariant-loop-row l = AreFirst l.row (values l.column) l.rows.items
