use Rattle.tb_unpivot.specs.Promise.Unpivot.{unpivot_table}
use Rattle.tb_calls.specs.Promise.Asked.{long_of}
use Rattle.tb_front.specs.Promise.Asked.{unpivot_faults}
use Rattle.tb_front.proofs.OneTable.{read_answer, read_settles}
use Rattle.tb_front.proofs.asking.unpivot_text.Goals as goal

pub returns-clause-settles : goal.returns-clause-settles
returns-clause-settles g c =
    read_settles c.args.options.now.csv c.args.text.items _ (unpivot_faults c.args.options.now.form c.args.call) _ c.in_ok-table.ensures.table c.in_ok-table.ensures.settles c.long_text.ensures.settles

pub returns-clause-answer : goal.returns-clause-answer
returns-clause-answer g c =
    read_answer c.args.options.now.form c.args.options.now.csv c.args.text.items _ (λ t. unpivot_table (long_of c.args.call t)) _ c.in_ok-table.ensures.table c.long_text.ensures.answer
