use Rattle.std.proofs.Common.{Option, None, refl, sym, subst, arith}
use Rattle.std.proofs.lemmas.List.{length-map}
use Rattle.std.proofs.lemmas.Result.{err_from_is_err_and}
use Rattle.std.specs.Borrow.{Bor}
use Rattle.tb_value.specs.Refusals.{Settles}
use Rattle.tb_value.specs.declared.error.PolarsError.{PolarsError}
use Rattle.tb_chunk.specs.Promise.Col.{Col}
use Rattle.tb_chunk.specs.Lent.{lent_columns}
use Rattle.tb_frame.specs.Promise.Refusal.{column_causes, row_causes}
use Rattle.tb_frame.proofs.Causes.{no_cause}
use Rattle.tb_keys.specs.Asked.{asked_request}
use Rattle.tb_keys.proofs.Refusing.{by_first, second_part, two_parts}
use Rattle.tb_pairs.proofs.Checked.{checked_alike}
use Rattle.tb_join.proofs.frame_join.checked_pairs.Goals as goal

pub returns-in_err-check_columns : goal.returns-in_err-check_columns
returns-in_err-check_columns g c =
    let q = asked_request c.args.request.now in
    let p = err_from_is_err_and c.from_residual.result c.from_residual.ensures.1 in
    rw (p.1, p.2) (record { settles = by_first _ _ _ _ _ (two_parts (column_causes q) (row_causes q)) refl c.in_err-check_columns.ensures; listed = tt; traced = tt; let_in = tt })

pub traced_pairs-requires-clause-alike : goal.traced_pairs-requires-clause-alike
traced_pairs-requires-clause-alike g c κs within =
    let r = c.args.request.now in
    let left = length-map r.left_keys.now (λ (b : Bor Col). b.now) in
    let right = length-map r.right_keys.now (λ (b : Bor Col). b.now) in
    let some = c.requires.some in
    let many = c.requires.as_many in
    let none = no_cause (column_causes (asked_request r)) c.in_ok-check_columns.ensures in
    checked_alike (asked_request r) (lent_columns r.left_keys.now) (lent_columns r.right_keys.now) refl refl (omega (arith, left, some)) (omega (arith, left, right, many)) (none 0 None (omega arith)) (none 1 None (omega arith))

pub returns : goal.returns
returns g c =
    let q = asked_request c.args.request.now in
    let h = c.traced_pairs.ensures in
    record {
      settles = subst (λ (o : Option PolarsError). Settles c.traced_pairs.result o) (sym (second_part (column_causes q) (row_causes q) c.in_ok-check_columns.ensures)) h.settles;
      listed = h.listed;
      traced = h.traced;
      let_in = h.let_in;
    }
