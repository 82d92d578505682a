use Rattle.tb_rows.specs.Names.{name_of}
use Rattle.tb_rows.proofs.Leaders.{coded_more}
use Rattle.tb_rows.proofs.coded.coded_rows.Goals as goal

pub loop-place-preserved : goal.loop-place-preserved
loop-place-preserved c =
    coded_more c.args.columns.now (name_of c.args.names) c.loop-place.place c.loop-place.rows.items _ c.code_at.result c.name-row.result c.name-row.ensures c.code_at.ensures
    c.loop-place.invariant c.in_ok-push.ensures.items
