use Rattle.tb_pivot.specs.Promise.Pivot.{pivot_table}
use Rattle.tb_calls.specs.Promise.Asked.{wide_of}
use Rattle.tb_front.specs.Promise.Asked.{pivot_faults}
use Rattle.tb_front.proofs.OneTable.{read_answer, read_settles}
use Rattle.tb_front.proofs.asking.pivot_text.Goals as goal

pub returns-clause-settles : goal.returns-clause-settles
returns-clause-settles g c =
    read_settles c.args.options.now.csv c.args.text.items _ (pivot_faults c.args.options.now c.args.call) _ c.in_ok-table.ensures.table c.in_ok-table.ensures.settles c.wide_text.ensures.settles

pub returns-clause-answer : goal.returns-clause-answer
returns-clause-answer g c =
    read_answer c.args.options.now.form c.args.options.now.csv c.args.text.items _ (λ t. pivot_table (wide_of c.args.call t)) _ c.in_ok-table.ensures.table c.wide_text.ensures.answer
