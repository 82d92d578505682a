use Rattle.tb_dummies.specs.Promise.Dummies.{dummies_table}
use Rattle.tb_front.specs.Promise.Asked.{dummies_faults, marked_of}
use Rattle.tb_front.proofs.OneTable.{read_answer, read_settles}
use Rattle.tb_front.proofs.asking.dummies_text.Goals as goal

pub returns-clause-settles : goal.returns-clause-settles
returns-clause-settles g c =
    read_settles c.args.options.now.csv c.args.text.items _ (dummies_faults c.args.options.now.form c.args.call) _ c.in_ok-table.ensures.table c.in_ok-table.ensures.settles c.marked_text.ensures.settles

pub returns-clause-answer : goal.returns-clause-answer
returns-clause-answer g c =
    read_answer c.args.options.now.form c.args.options.now.csv c.args.text.items _ (λ t. dummies_table (marked_of c.args.call t)) _ c.in_ok-table.ensures.table c.marked_text.ensures.answer
