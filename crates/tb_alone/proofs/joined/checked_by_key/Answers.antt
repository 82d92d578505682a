use Rattle.std.proofs.Common.{[], ◌∷◌, Option, refl, sym, ◌∙◌, subst}
use Rattle.std.proofs.lemmas.Result.{err_from_is_err_and}
use Rattle.tb_value.specs.Refusals.{Settles}
use Rattle.tb_value.specs.declared.error.PolarsError.{PolarsError}
use Rattle.tb_frame.specs.Promise.Refusal.{broken_left, broken_right, too_many_rows}
use Rattle.tb_frame.proofs.Causes.{first_cause-one}
use Rattle.tb_keys.specs.Asked.{asked_request}
use Rattle.tb_keys.proofs.Refusing.{by_first, second_part, two_parts}
use Rattle.tb_alone.proofs.joined.checked_by_key.Goals as goal

pub returns-in_err-check_keys-clause-settles : goal.returns-in_err-check_keys-clause-settles
returns-in_err-check_keys-clause-settles c =
    let q = asked_request c.args.request.now in
    let p = err_from_is_err_and c.from_residual.result c.from_residual.ensures.1 in
    rw (p.1, p.2) (by_first _ _ _ _ _ (two_parts (broken_left q ∷ broken_right q ∷ []) (too_many_rows q ∷ [])) refl c.in_err-check_keys.ensures)

pub returns-clause-settles : goal.returns-clause-settles
returns-clause-settles c =
    let q = asked_request c.args.request.now in
    subst (λ (o : Option PolarsError). Settles c.pairs_by_key.result o)
    (sym (second_part (broken_left q ∷ broken_right q ∷ []) (too_many_rows q ∷ []) c.in_ok-check_keys.ensures ∙ first_cause-one (too_many_rows q))) c.pairs_by_key.ensures.settles
