use Rattle.tb_keys.proofs.Refusing.{keys_are}
use Rattle.tb_keys.proofs.request.NamedRequest.key_columns.Goals as goal

pub returns-clause-left : goal.returns-clause-left
returns-clause-left c = keys_are c.args.self.now.left.now c.get_columns.result.now c.args.self.now.left_on.now _ c.get_columns.ensures.table
    c.get_columns.ensures.columns c.in_ok-left.ensures.columns

pub returns-clause-right : goal.returns-clause-right
returns-clause-right c = keys_are c.args.self.now.right.now c.get_columns-2.result.now c.args.self.now.right_on.now _ c.get_columns-2.ensures.table
    c.get_columns-2.ensures.columns c.in_ok-right.ensures.columns
