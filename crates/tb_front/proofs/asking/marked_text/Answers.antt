use Rattle.std.proofs.Common.{sym}
use Rattle.tb_frame.specs.Promise.Table.{table_of}
use Rattle.tb_calls.specs.Promise.Asked as calls
use Rattle.tb_front.specs.Promise.Asked.{marked_of}
use Rattle.tb_front.proofs.OneTable.{marked_settles, marked_written}
use Rattle.tb_front.proofs.asking.marked_text.Goals as goal

pub returns-clause-settles : goal.returns-clause-settles
returns-clause-settles g c =
    let o = c.args.options.now in
    let t = table_of c.args.table in
    marked_settles o.form o.csv.separator (calls.marked_of c.in_ok-call.call t) (marked_of c.args.call t) c.in_ok-call.ensures _ _ c.with_dummies-outcome.ensures.table c.written.ensures
    c.with_dummies-outcome.ensures.settles

pub returns-clause-answer : goal.returns-clause-answer
returns-clause-answer g c =
    let o = c.args.options.now in
    let t = table_of c.args.table in
    marked_written o.form o.csv.separator (calls.marked_of c.in_ok-call.call t) (marked_of c.args.call t) c.in_ok-call.ensures _ _ c.with_dummies-outcome.ensures.table c.written.ensures
