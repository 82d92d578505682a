use Rattle.std.proofs.Common.{◌∙◌, sym, ap}
use Rattle.std.proofs.lemmas.Result.{err_from_is_err_and}
use Rattle.tb_group.specs.Promise.Group.{group_table}
use Rattle.tb_group.specs.Promise.Refusal.{group_refusal}
use Rattle.tb_group_request.proofs.Asked.{asked_is, refused_is, told_is}
use Rattle.tb_group_request.proofs.grouping.grouped.Goals as goal

pub returns-in_err-table-clause-settles : goal.returns-in_err-table-clause-settles
returns-in_err-table-clause-settles g c =
    let asked = asked_is c.args.request c.deref.result.now c.deref-2.result.now c.deref.ensures.value c.deref-2.ensures.value in
    let p = err_from_is_err_and c.from_residual.result c.from_residual.ensures.1 in
    rw (p.1, p.2) (refused_is _ _ c.in_err-table.field-0.0 asked c.in_err-table.ensures.settles)

pub returns-clause-settles : goal.returns-clause-settles
returns-clause-settles g c =
    let asked = asked_is c.args.request c.deref.result.now c.deref-2.result.now c.deref.ensures.value c.deref-2.ensures.value in
    sym (ap group_refusal asked) ∙ c.in_ok-table.ensures.settles

pub returns-clause-answer : goal.returns-clause-answer
returns-clause-answer g c =
    let asked = asked_is c.args.request c.deref.result.now c.deref-2.result.now c.deref.ensures.value c.deref-2.ensures.value in
    (c.in_ok-table.ensures.table ∙ ap group_table asked, told_is c.args.request _ _ _ asked c.in_ok-table.ensures.traced c.then_some.ensures)
