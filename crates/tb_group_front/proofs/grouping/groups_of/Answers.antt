use Rattle.std.proofs.Common.{◌∙◌, ap, sym}
use Rattle.std.proofs.lemmas.Result.{err_from_is_err_and}
use Rattle.tb_group.specs.Promise.Group.{group_table}
use Rattle.tb_group.specs.Promise.Refusal.{group_refusal}
use Rattle.tb_group_front.proofs.Asked.{asked_is, refused_is}
use Rattle.tb_group_front.proofs.grouping.groups_of.Goals as goal

pub returns-in_err-groups-clause-settles : goal.returns-in_err-groups-clause-settles
returns-in_err-groups-clause-settles g c =
    let asked = asked_is c.args.call.now c.args.table c.deref.result.now c.deref-2.result.now c.deref.ensures.value c.deref-2.ensures.value in
    let p = err_from_is_err_and c.from_residual.result c.from_residual.ensures.1 in
    rw (p.1, p.2) (refused_is _ _ _ asked c.in_err-groups.ensures.settles)

pub returns-clause-settles : goal.returns-clause-settles
returns-clause-settles g c =
    let asked = asked_is c.args.call.now c.args.table c.deref.result.now c.deref-2.result.now c.deref.ensures.value c.deref-2.ensures.value in
    sym (ap group_refusal asked) ∙ c.in_ok-groups.ensures.settles

pub returns-clause-table : goal.returns-clause-table
returns-clause-table g c =
    let asked = asked_is c.args.call.now c.args.table c.deref.result.now c.deref-2.result.now c.deref.ensures.value c.deref-2.ensures.value in
    c.in_ok-groups.ensures.table ∙ ap group_table asked
