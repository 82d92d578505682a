use Rattle.std.proofs.Common.{◌∙◌, get_or, Some, None}
use Rattle.tb_alone.proofs.InOrder.{lent-rows}
use Rattle.tb_alone.proofs.found.rows_at.Goals as goal

pub returns-in-Some : goal.returns-in-Some
returns-in-Some g c =
    c.rows.ensures
    ∙ lent-rows g.K.PartialEq.eq g.met.K.Eq.laws c.args.table.now (Some c.in-Some.key) (get_or (g.L.KeyList.list c.args.list.now) c.args.row None) c.in-Some.ensures

pub returns-in-None : goal.returns-in-None
returns-in-None g c = lent-rows g.K.PartialEq.eq g.met.K.Eq.laws c.args.table.now None (get_or (g.L.KeyList.list c.args.list.now) c.args.row None) c.in-None.ensures
