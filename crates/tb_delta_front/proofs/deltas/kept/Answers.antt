use Rattle.std.proofs.Common.{◌∷◌, []}
use Rattle.tb_delta_front.specs.Promise.Deltas.{kept_behind}
use Rattle.tb_front.specs.Promise.Faults.{key_clash}
use Rattle.tb_front.specs.Tables.{tables_view}
use Rattle.tb_front.proofs.Dues.{stopped_by}
use Rattle.tb_delta_front.proofs.KeptJoins.{kept_on}
use Rattle.tb_delta_front.proofs.deltas.kept.Goals as goal

pub returns-in-Ok : goal.returns-in-Ok
returns-in-Ok c =
    let t = tables_view c.args.tables in
    let call = c.args.call.now in
    kept_on c.args.keeps (key_clash t.0 t.1 (call.left_on ∷ []) (call.right_on ∷ [])) (kept_behind call t c.args.steps.now) c.kept_text.result c.in-Ok.ensures c.kept_text.ensures

pub returns-in-Err : goal.returns-in-Err
returns-in-Err c =
    let t = tables_view c.args.tables in
    let call = c.args.call.now in
    stopped_by (key_clash t.0 t.1 (call.left_on ∷ []) (call.right_on ∷ [])) (kept_behind call t c.args.steps.now) c.in-Err.fault c.in-Err.ensures
