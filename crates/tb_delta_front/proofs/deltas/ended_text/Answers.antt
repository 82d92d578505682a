use Rattle.std.proofs.Common.{false, subst}
use Rattle.std.specs.Prelude.{IfOk}
use Rattle.tb_delta.specs.Promise.Now.{now}
use Rattle.tb_delta.specs.Promise.State.{State}
use Rattle.tb_front.specs.Promise.Asked.{IsAnswerText}
use Rattle.tb_front.specs.Promise.Faults.{Settles}
use Rattle.tb_front.specs.Tables.{tables_view}
use Rattle.tb_delta_front.specs.Promise.Deltas.{asked_of, end_faults}
use Rattle.tb_delta_front.proofs.KeptEnds.{end_answers, end_settles, end_stops}
use Rattle.tb_delta_front.proofs.deltas.ended_text.Goals as goal

pub returns-in-Ok-clause-settles : goal.returns-in-Ok-clause-settles
returns-in-Ok-clause-settles g c =
    let o = c.args.options.now in
    end_settles o false (asked_of c.args.call.now (tables_view c.args.tables) c.args.steps.now) c.in-Ok.kept c.in-Ok.ensures c.end_text.result
    (subst (λ (s : State). Settles c.end_text.result (end_faults o.form (now s))) c.view_alone.ensures c.end_text.ensures.settles)

pub returns-in-Ok-clause-answer : goal.returns-in-Ok-clause-answer
returns-in-Ok-clause-answer g c =
    let o = c.args.options.now in
    end_answers o false (asked_of c.args.call.now (tables_view c.args.tables) c.args.steps.now) c.in-Ok.kept c.in-Ok.ensures c.end_text.result
    (subst (λ (s : State). IfOk c.end_text.result (IsAnswerText o (now s))) c.view_alone.ensures c.end_text.ensures.answer)

pub returns-in-Err-clause-settles : goal.returns-in-Err-clause-settles
returns-in-Err-clause-settles g c =
    end_stops c.args.options.now (asked_of c.args.call.now (tables_view c.args.tables) c.args.steps.now) c.in-Err.fault c.in-Err.ensures
