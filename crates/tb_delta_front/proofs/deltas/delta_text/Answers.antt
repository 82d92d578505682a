use Rattle.std.proofs.Common.{◌∙◌, ap, sym}
use Rattle.tb_delta_front.specs.Promise.Deltas.{asked_of, asked_steps, changed_text, changes, changes_text}
use Rattle.tb_delta_front.specs.Promise.Deltas as due
use Rattle.tb_front.specs.Tables.{tables_view}
use Rattle.tb_front.proofs.Dues.{ends_here, goes_on}
use Rattle.tb_delta_front.proofs.KeptEnds.{gives_as}
use Rattle.tb_delta_front.proofs.deltas.delta_text.Goals as goal

pub returns-in-Ok : goal.returns-in-Ok
returns-in-Ok g c =
    let o = c.args.options.now in
    let call = c.args.call.now in
    let text = c.args.steps.items in
    let tables = due.kept_tables o.csv call c.args.left.items c.args.right.items in
    gives_as (λ t. t) c.changed_text.result (changed_text o (asked_steps o.csv call c.args.left.items c.args.right.items text)) (changed_text o (asked_of call (tables_view c.in-Ok.tables) c.deref.result.now))
    (ap (changed_text o) (goes_on tables (λ t. asked_of call t text) (tables_view c.in-Ok.tables) c.in-Ok.ensures ∙ ap (asked_of call (tables_view c.in-Ok.tables)) (sym c.deref.ensures.value)))
    c.changed_text.ensures

pub returns : goal.returns
returns g c =
    let o = c.args.options.now in
    let call = c.args.call.now in
    let text = c.args.steps.items in
    let tables = due.kept_tables o.csv call c.args.left.items c.args.right.items in
    ends_here (asked_steps o.csv call c.args.left.items c.args.right.items text) (λ a. changes_text o (changes 1 a.0 a.1)) c.in-Err.fault
    (ends_here tables (λ t. asked_of call t text) c.in-Err.fault c.in-Err.ensures)
