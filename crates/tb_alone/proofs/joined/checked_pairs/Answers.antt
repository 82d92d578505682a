use Rattle.std.proofs.Common.{◌∙◌, None, List, refl, subst, arith}
use Rattle.std.proofs.lemmas.List.{length-map}
use Rattle.std.proofs.lemmas.Result.{err_from_is_err_and}
use Rattle.std.specs.Borrow.{Bor}
use Rattle.tb_value.specs.declared.index.JoinPair.{JoinPair}
use Rattle.tb_chunk.specs.Promise.Col.{Col}
use Rattle.tb_chunk.specs.Lent.{lent_columns}
use Rattle.tb_frame.specs.Answer.{IsListed}
use Rattle.tb_frame.specs.Promise.Refusal.{column_causes, row_causes}
use Rattle.tb_frame.proofs.Causes.{no_cause}
use Rattle.tb_keys.specs.Asked.{asked_request}
use Rattle.tb_keys.proofs.Refusing.{by_first, by_second, second_part, two_parts}
use Rattle.tb_pairs.proofs.Checked.{checked_alike}
use Rattle.tb_alone.proofs.joined.checked_pairs.Goals as goal

pub returns-in_err-check_columns-clause-settles : goal.returns-in_err-check_columns-clause-settles
returns-in_err-check_columns-clause-settles c =
    let q = asked_request c.args.request.now in
    let p = err_from_is_err_and c.from_residual.result c.from_residual.ensures.1 in
    rw (p.1, p.2) (by_first _ _ _ _ _ (two_parts (column_causes q) (row_causes q)) refl c.in_err-check_columns.ensures)

pub listed_pairs-requires : goal.listed_pairs-requires
listed_pairs-requires c =
    let r = c.args.request.now in
    let left = length-map r.left_keys.now (λ (b : Bor Col). b.now) in
    let right = length-map r.right_keys.now (λ (b : Bor Col). b.now) in
    let some = c.requires.some in
    let many = c.requires.as_many in
    let none = no_cause (column_causes (asked_request r)) c.in_ok-check_columns.ensures in
    record { alike = checked_alike (asked_request r) (lent_columns r.left_keys.now) (lent_columns r.right_keys.now) refl refl (omega (arith, left, some)) (omega (arith, left, right, many)) (none 0 None (omega arith)) (none 1 None (omega arith)) }

pub returns-in_err-pairs-clause-settles : goal.returns-in_err-pairs-clause-settles
returns-in_err-pairs-clause-settles c =
    let q = asked_request c.args.request.now in
    let p = err_from_is_err_and c.from_residual-in_err-pairs.result c.from_residual-in_err-pairs.ensures.1 in
    rw (p.1, p.2) (by_second _ _ _ _ (two_parts (column_causes q) (row_causes q)) c.in_ok-check_columns.ensures c.in_err-pairs.ensures.settles)

pub returns-clause-settles : goal.returns-clause-settles
returns-clause-settles c =
    let q = asked_request c.args.request.now in
    second_part (column_causes q) (row_causes q) c.in_ok-check_columns.ensures ∙ c.in_ok-pairs.ensures.settles

pub returns-clause-listed : goal.returns-clause-listed
returns-clause-listed c =
    let r = c.args.request.now in
    subst (λ (list : List JoinPair). IsListed r.how r.args.now.maintain_order r.args.now.slice list c.in_ok-arrange.field-0.items) c.in_ok-pairs.ensures.listed c.in_ok-arrange.ensures
