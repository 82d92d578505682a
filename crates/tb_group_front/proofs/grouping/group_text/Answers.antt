use Rattle.tb_front.proofs.OneTable.{read_answer, read_settles}
use Rattle.tb_group_front.specs.Promise.Grouped.{group_faults, grouped_table}
use Rattle.tb_group_front.proofs.grouping.group_text.Goals as goal

pub returns-clause-settles : goal.returns-clause-settles
returns-clause-settles g c =
    read_settles c.args.options.now.csv c.args.text.items _ (group_faults c.args.options.now c.args.call.now) _ c.in_ok-table.ensures.table c.in_ok-table.ensures.settles c.grouped_text.ensures.settles

pub returns-clause-answer : goal.returns-clause-answer
returns-clause-answer g c =
    read_answer c.args.options.now.form c.args.options.now.csv c.args.text.items _ (grouped_table c.args.call.now) _ c.in_ok-table.ensures.table c.grouped_text.ensures.answer
