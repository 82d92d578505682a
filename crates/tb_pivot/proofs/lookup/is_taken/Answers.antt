use Rattle.std.proofs.Common.{◌∙◌, ap, not}
use Rattle.tb_value.specs.Promise.Kind.{Kind}
use Rattle.tb_frame.specs.Promise.Table.{plain_column}
use Rattle.tb_pivot.specs.Made.{takes}
use Rattle.tb_pivot.proofs.Causes.{not_taken}
use Rattle.tb_pivot.proofs.lookup.is_taken.Goals as goal

pub returns : goal.returns
returns g c =
    ap not c.takes.ensures ∙ ap (λ (t : Kind). not (takes (g.M.CellMaker.way c.args.maker.now) t)) c.dtype.ensures
    ∙ not_taken (g.M.CellMaker.way c.args.maker.now) (plain_column c.args.column.now)
