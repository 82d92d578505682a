use Rattle.tb_calls.proofs.Lent.{dummies_settle, dummies_stand}
use Rattle.tb_calls.proofs.reshaping.with_dummies.Goals as goal

pub returns-clause-settles : goal.returns-clause-settles
returns-clause-settles c = dummies_settle c.args.call c.args.table _ _ c.names_given-columns.ensures c.text_given-separator.ensures _ c._to_dummies.ensures.settles

pub returns-clause-table : goal.returns-clause-table
returns-clause-table c = dummies_stand c.args.call c.args.table _ _ c.names_given-columns.ensures c.text_given-separator.ensures _ c._to_dummies.ensures.table
