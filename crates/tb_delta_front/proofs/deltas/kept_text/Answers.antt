use Rattle.tb_frame.specs.Promise.Table.{schema_of}
use Rattle.tb_delta.specs.Running.{steps_of}
use Rattle.tb_delta_front.specs.Promise.Deltas.{kept_behind, kept_from}
use Rattle.tb_delta_front.specs.Promise.Steps.{steps_in}
use Rattle.tb_front.specs.Tables.{tables_view}
use Rattle.tb_front.proofs.Dues.{ends_here, goes_on}
use Rattle.tb_delta_front.proofs.KeptJoins.{kept_as}
use Rattle.tb_delta_front.proofs.deltas.kept_text.Goals as goal

pub returns-in-Ok : goal.returns-in-Ok
returns-in-Ok c =
    let t = tables_view c.args.tables in
    let due = steps_in (schema_of t.0) (schema_of t.1) c.args.steps.now in
    kept_as c.args.keeps (kept_behind c.args.call.now t c.args.steps.now) (kept_from c.args.call.now t (steps_of c.in-Ok.steps.items)) c.kept_steps.result
    (goes_on due (kept_from c.args.call.now t) (steps_of c.in-Ok.steps.items) c.in-Ok.ensures.value) c.kept_steps.ensures

pub returns-in-Err : goal.returns-in-Err
returns-in-Err c =
    let t = tables_view c.args.tables in
    ends_here (steps_in (schema_of t.0) (schema_of t.1) c.args.steps.now) (kept_from c.args.call.now t) c.in-Err.fault c.in-Err.ensures.value
