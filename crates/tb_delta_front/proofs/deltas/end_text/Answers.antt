use Rattle.tb_delta.specs.Promise.Now.{now}
use Rattle.tb_frame.specs.Promise.Join.{IsAnswer, out_columns}
use Rattle.tb_frame.specs.Promise.Refusal.{too_many_rows}
use Rattle.tb_front.specs.Promise.Faults.{empty_table, writing_fault}
use Rattle.tb_front.proofs.Joined.{answers_written}
use Rattle.tb_front.proofs.Outcomes.{outcome_answers, outcome_settles}
use Rattle.tb_delta_front.proofs.deltas.end_text.Goals as goal

pub returns-clause-settles : goal.returns-clause-settles
returns-clause-settles g c =
    let o = c.args.options.now in
    let q = now c.args.view in
    outcome_settles o.form o.csv.separator c.table-outcome.result c.written.result (too_many_rows q) (writing_fault o.form (empty_table (out_columns q)))
    c.table-outcome.ensures.settles (answers_written o.form o.csv.separator q c.table-outcome.result c.table-outcome.ensures.answer) c.written.ensures

pub returns-clause-answer : goal.returns-clause-answer
returns-clause-answer g c =
    outcome_answers c.args.options.now.form c.args.options.now.csv.separator (IsAnswer (now c.args.view)) c.table-outcome.result c.written.result c.table-outcome.ensures.answer c.written.ensures
