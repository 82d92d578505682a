use Rattle.std.specs.Prelude.{IfOk}
use Rattle.std.proofs.Common.{◌∙◌, ap, subst, sym}
use Rattle.tb_delta_front.specs.Promise.Deltas.{IsEndText, asked_of, asked_steps, end_fault}
use Rattle.tb_delta_front.specs.Promise.Deltas as due
use Rattle.tb_front.specs.Promise.Faults.{Settles}
use Rattle.tb_front.specs.Tables.{tables_view}
use Rattle.tb_front.proofs.Dues.{ends_here, goes_on}
use Rattle.tb_delta_front.proofs.KeptEnds.{end_stops}
use Rattle.tb_delta_front.proofs.deltas.delta_table_text.Goals as goal

pub returns-clause-settles : goal.returns-clause-settles
returns-clause-settles g c =
    let o = c.args.options.now in
    let call = c.args.call.now in
    let text = c.args.steps.items in
    let tables = due.kept_tables o.csv call c.args.left.items c.args.right.items in
    end_stops o (asked_steps o.csv call c.args.left.items c.args.right.items text) c.in-Err.fault (ends_here tables (λ t. asked_of call t text) c.in-Err.fault c.in-Err.ensures)

pub returns-in-Ok-clause-settles : goal.returns-in-Ok-clause-settles
returns-in-Ok-clause-settles g c =
    let o = c.args.options.now in
    let call = c.args.call.now in
    let text = c.args.steps.items in
    let tables = due.kept_tables o.csv call c.args.left.items c.args.right.items in
    let t = tables_view c.in-Ok.tables in
    let same = goes_on tables (λ t. asked_of call t text) t c.in-Ok.ensures ∙ ap (asked_of call t) (sym c.deref.ensures.value) in
    subst (λ d. Settles c.ended_text.result (end_fault o.form d)) (sym same) c.ended_text.ensures.settles

pub returns-in-Ok-clause-answer : goal.returns-in-Ok-clause-answer
returns-in-Ok-clause-answer g c =
    let o = c.args.options.now in
    let call = c.args.call.now in
    let text = c.args.steps.items in
    let tables = due.kept_tables o.csv call c.args.left.items c.args.right.items in
    let t = tables_view c.in-Ok.tables in
    let same = goes_on tables (λ t. asked_of call t text) t c.in-Ok.ensures ∙ ap (asked_of call t) (sym c.deref.ensures.value) in
    subst (λ d. IfOk c.ended_text.result (IsEndText o d)) (sym same) c.ended_text.ensures.answer
