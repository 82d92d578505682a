use Rattle.std.proofs.Common.{sym, subst}
use Rattle.std.specs.Prelude.{All}
use Rattle.tb_delta.specs.Promise.Now.{view_refusal}
use Rattle.tb_delta.specs.Promise.State.{State}
use Rattle.tb_delta.specs.Running.{steps_of}
use Rattle.tb_delta_front.specs.Keeping.{IsKept}
use Rattle.tb_delta_front.specs.Promise.Deltas.{state_of, steps_done}
use Rattle.tb_front.specs.Promise.Faults.{refusal_fault}
use Rattle.tb_delta_front.specs.Promise.Steps.{Fits}
use Rattle.tb_front.specs.Tables.{tables_view}
use Rattle.tb_front.proofs.Dues.{stopped_by}
use Rattle.tb_delta_front.proofs.KeptJoins.{kept_on}
use Rattle.tb_delta_front.proofs.deltas.kept_steps.Goals as goal

pub kept_view-requires : goal.kept_view-requires
kept_view-requires c =
    subst (λ (s : State). All (Fits s.left.columns s.right.columns) (steps_of c.args.steps.items)) (sym c.in-Ok.ensures.view) c.requires

pub returns-in-Ok : goal.returns-in-Ok
returns-in-Ok c =
    let s = state_of c.args.call.now (tables_view c.args.tables) in
    let xs = steps_of c.args.steps.items in
    kept_on c.args.keeps (refusal_fault (view_refusal s)) (steps_done s xs) c.kept_view.result c.in-Ok.ensures.settles
    (subst (λ (t : State). IsKept c.args.keeps (steps_done t xs) c.kept_view.result) c.in-Ok.ensures.view c.kept_view.ensures)

pub returns-in-Err : goal.returns-in-Err
returns-in-Err c =
    let s = state_of c.args.call.now (tables_view c.args.tables) in
    stopped_by (refusal_fault (view_refusal s)) (steps_done s (steps_of c.args.steps.items)) c.in-Err.fault c.in-Err.ensures.settles
