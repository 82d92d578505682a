use Rattle.std.proofs.Common.{Option, refl, sym, subst}
use Rattle.std.proofs.lemmas.Result.{err_from_is_err_and}
use Rattle.tb_value.specs.Refusals.{Settles}
use Rattle.tb_value.specs.declared.error.PolarsError.{PolarsError}
use Rattle.tb_frame.specs.Promise.Refusal.{column_causes, row_causes}
use Rattle.tb_keys.specs.Asked.{asked_request}
use Rattle.tb_keys.proofs.Refusing.{by_first, second_part, two_parts}
use Rattle.tb_nested.proofs.nested.checked_pairs.Goals as goal

pub returns-in_err-check_columns-clause-settles : goal.returns-in_err-check_columns-clause-settles
returns-in_err-check_columns-clause-settles c =
    let q = asked_request c.args.request.now in
    let p = err_from_is_err_and c.from_residual.result c.from_residual.ensures.1 in
    rw (p.1, p.2) (by_first _ _ _ _ _ (two_parts (column_causes q) (row_causes q)) refl c.in_err-check_columns.ensures)

pub returns-clause-settles : goal.returns-clause-settles
returns-clause-settles c =
    let q = asked_request c.args.request.now in
    subst (λ (o : Option PolarsError). Settles c.validated_pairs.result o) (sym (second_part (column_causes q) (row_causes q) c.in_ok-check_columns.ensures)) c.validated_pairs.ensures.settles
