use Rattle.std.proofs.Common.{◌≡◌, ◌∙◌, ◌<◌, [], arith, get_or, sym}
use Rattle.std.specs.Prelude.{All}
use Rattle.tb_frame.specs.Promise.Table.{height, table_of}
use Rattle.tb_split.specs.Keys.{AreRowsOf}
use Rattle.tb_split.proofs.PartTables.{one_more, rows_at}
use Rattle.tb_split.proofs.splitting.tables_of.Goals as goal

pub take-requires-clause-rows : goal.take-requires-clause-rows
take-requires-clause-rows c =
    (rows_at (height (table_of c.args.table.now)) c.args.rows.now c.loop-part.part c.rows.result.now c.requires.each (omega (arith, c.loop-part-test.true, c.requires.many)) c.rows.ensures).low

pub take-requires-clause-few : goal.take-requires-clause-few
take-requires-clause-few c =
    (rows_at (height (table_of c.args.table.now)) c.args.rows.now c.loop-part.part c.rows.result.now c.requires.each (omega (arith, c.loop-part-test.true, c.requires.many)) c.rows.ensures).few

pub loop-part-preserved : goal.loop-part-preserved
loop-part-preserved c =
    one_more c.args.table.now c.args.rows.now c.loop-part.part (omega (arith, c.loop-part-test.true, c.requires.many)) c.loop-part.tables.items _ _ c.rows.result.now
    c.loop-part.invariant c.rows.ensures c.in_ok-take.ensures c.in_ok-push.ensures.items
