use Rattle.std.proofs.Common.{◌∙◌, ap, sym}
use Rattle.tb_delta_front.specs.Deltas.{changes_of}
use Rattle.tb_delta_front.specs.Promise.Deltas.{asked_of, changed_text, changes, changes_text}
use Rattle.tb_front.specs.Tables.{tables_view}
use Rattle.tb_front.proofs.Dues.{ends_here}
use Rattle.tb_delta_front.proofs.KeptEnds.{changes_told, gives_as}
use Rattle.tb_delta_front.proofs.deltas.changed_text.Goals as goal

pub returns-in-Ok : goal.returns-in-Ok
returns-in-Ok g c =
    let o = c.args.options.now in
    let due = asked_of c.args.call.now (tables_view c.args.tables) c.args.steps.now in
    gives_as (λ t. t) c.changes_text.result (changed_text o due) (changes_text o (changes_of c.changes_alone.result.items))
    (changes_told o due c.in-Ok.kept c.in-Ok.ensures ∙ ap (λ v. changes_text o (changes_of v.items)) (sym c.changes_alone.ensures)) c.changes_text.ensures

pub returns-in-Err : goal.returns-in-Err
returns-in-Err g c =
    let o = c.args.options.now in
    ends_here (asked_of c.args.call.now (tables_view c.args.tables) c.args.steps.now) (λ a. changes_text o (changes 1 a.0 a.1)) c.in-Err.fault c.in-Err.ensures
