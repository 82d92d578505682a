use Rattle.std.proofs.Common.{◌≡◌, IfOk, subst}
use Rattle.tb_value.specs.Promise.Refusals.{first_cause}
use Rattle.tb_value.specs.Refusals.{Settles}
use Rattle.tb_frame.specs.Promise.Table.{table_of}
use Rattle.tb_pivot.specs.Promise.Pivot.{wide}
use Rattle.tb_pivot.specs.Promise.Refusal.{value_causes}
use Rattle.tb_pivot.specs.Promise.Request.{Chosen}
use Rattle.tb_pivot.proofs.wide.wide.Goals as goal

pub returns-clause-settles : goal.returns-clause-settles
returns-clause-settles g c =
    subst (λ (q : Chosen). Settles c.laid_table.result (first_cause (value_causes q))) (c.in_ok-layout.ensures.chosen (g.M.CellMaker.way c.args.maker.now)) c.laid_table.ensures.settles

pub returns-clause-table : goal.returns-clause-table
returns-clause-table g c =
    subst (λ (q : Chosen). IfOk c.laid_table.result (λ t. table_of t ≡ wide q)) (c.in_ok-layout.ensures.chosen (g.M.CellMaker.way c.args.maker.now)) c.laid_table.ensures.table
