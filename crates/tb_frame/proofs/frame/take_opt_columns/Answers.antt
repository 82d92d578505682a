use Rattle.std.proofs.Common.{length, sym, subst}
use Rattle.std.specs.Prelude.{All}
use Rattle.tb_chunk.specs.Promise.Col.{Col, values}
use Rattle.tb_chunk.specs.Rows.{IsRowOf}
use Rattle.tb_frame.proofs.frame.take_opt_columns.Goals as goal

pub take_opt-requires-clause-rows : goal.take_opt-requires-clause-rows
take_opt-requires-clause-rows c =
    subst (λ (k : Col). All (IsRowOf (length (values k))) c.args.rows.now) (sym c.column-item.is) (c.requires.rows c.loop-column.column-index c.column-item.result c.loop-column-test.true)
