use Rattle.std.proofs.Common.{◌≡◌, ◌∙◌, None, Some, Option, List, [], ◌∷◌, map, option_map, ap, sym, subst, Vec, Global}
use Rattle.std.specs.Prelude.{All, IfSome, Ok}
use Rattle.std.proofs.lemmas.Result.{err_from_is_err_and}
use Rattle.tb_tree.specs.View.{view}
use Rattle.tb_pool.specs.Promise.ExecView.{ExecView}
use Rattle.tb_delta.specs.Running.{steps_of}
use Rattle.tb_delta.specs.declared.running.Step.{Step as RustStep}
use Rattle.tb_request.specs.Columns.{relaid_column}
use Rattle.tb_request.specs.Lent.{exec_view, written_view}
use Rattle.tb_request.specs.Promise.Reading.{◌>>=◌, FaultIs, request_tables}
use Rattle.tb_request.specs.declared.shape.WrittenColumn.{WrittenColumn}
use Rattle.tb_request.proofs.FromBytes.{fault_passes}
use Rattle.tb_delta_request.specs.Lent.{column_part, written_delta}
use Rattle.tb_delta_request.specs.Promise.Reading.{Fits, steps_in}
use Rattle.tb_delta_request.specs.Promise.Written.{WrittenDelta, delta_of}
use Rattle.tb_delta_request.proofs.Fitting.{fit_tables}
use Rattle.tb_delta_request.proofs.Stages.{by_tables, made, no_values}
use Rattle.tb_delta_request.proofs.reading.delta_in.Goals as goal

pub returns-in_default-2-clause-request : goal.returns-in_default-2-clause-request
returns-in_default-2-clause-request c =
    let w : WrittenDelta = written_delta c.in-Some.written in
    let formed : delta_of (view c.args.value) ≡ Some w = sym c.in_ok-written.ensures ∙ ap (option_map written_delta) c.in-Some.is in
    let lent : steps_in w.left w.right w.steps ≡ steps_in (map written_view c.deref.result.now) (map written_view c.deref-2.result.now) w.steps = λ t. steps_in (map written_view (sym c.deref.ensures.value t)) (map written_view (sym c.deref-2.ensures.value t)) w.steps in
    no_values (view c.args.value) w formed (lent ∙ sym c.in_ok-steps.ensures.value ∙ ap (option_map (λ v. steps_of v.items)) c.in_default-2.is)

pub returns-in_err-left-clause-request : goal.returns-in_err-left-clause-request
returns-in_err-left-clause-request c =
    let w : WrittenDelta = written_delta c.in-Some.written in
    let ss = steps_of c.in-Some-2.steps.items in
    let formed : delta_of (view c.args.value) ≡ Some w = sym c.in_ok-written.ensures ∙ ap (option_map written_delta) c.in-Some.is in
    let lent : steps_in w.left w.right w.steps ≡ steps_in (map written_view c.deref.result.now) (map written_view c.deref-2.result.now) w.steps = λ t. steps_in (map written_view (sym c.deref.ensures.value t)) (map written_view (sym c.deref-2.ensures.value t)) w.steps in
    let read : steps_in w.left w.right w.steps ≡ Some ss = lent ∙ sym c.in_ok-steps.ensures.value ∙ ap (option_map (λ v. steps_of v.items)) c.in-Some-2.is in
    let p = err_from_is_err_and c.from_residual-in_err-left.result c.from_residual-in_err-left.ensures.1 in
    let fault = subst (λ (e : ExecView). FaultIs c.in_err-left.field-0.0 (request_tables (w.left ∷ w.right ∷ []) e)) c.standard.ensures c.in_err-left.ensures.tables in
    rw (p.1, p.2) (subst (FaultIs _) (sym (by_tables (view c.args.value) w ss formed read)) (fault_passes _ _ (λ ts. Ok (made w ss ts)) fault))

pub returns-clause-request : goal.returns-clause-request
returns-clause-request c =
    let w : WrittenDelta = written_delta c.in-Some.written in
    let ss = steps_of c.in-Some-2.steps.items in
    let formed : delta_of (view c.args.value) ≡ Some w = sym c.in_ok-written.ensures ∙ ap (option_map written_delta) c.in-Some.is in
    let lent : steps_in w.left w.right w.steps ≡ steps_in (map written_view c.deref.result.now) (map written_view c.deref-2.result.now) w.steps = λ t. steps_in (map written_view (sym c.deref.ensures.value t)) (map written_view (sym c.deref-2.ensures.value t)) w.steps in
    let read : steps_in w.left w.right w.steps ≡ Some ss = lent ∙ sym c.in_ok-steps.ensures.value ∙ ap (option_map (λ v. steps_of v.items)) c.in-Some-2.is in
    by_tables (view c.args.value) w ss formed read
    ∙ ap (λ (e : ExecView). request_tables (w.left ∷ w.right ∷ []) e >>= λ ts. Ok (made w ss ts)) (sym c.standard.ensures)
    ∙ ap (λ r. r >>= λ ts. Ok (made w ss ts)) c.in_ok-left.ensures.tables

pub returns-clause-fitting : goal.returns-clause-fitting
returns-clause-fitting c =
    let ss = steps_of c.in-Some-2.steps.items in
    let Q : Option (Vec RustStep Global) → Type 0 = λ o. IfSome o (λ v. All (Fits (map column_part c.deref.result.now) (map column_part c.deref-2.result.now)) (steps_of v.items)) in
    let lent = subst Q c.in-Some-2.is c.in_ok-steps.ensures.fits in
    let fits : All (Fits (map column_part c.in-Some.written.left.items) (map column_part c.in-Some.written.right.items)) ss = subst (λ (q : List WrittenColumn × List WrittenColumn). All (Fits (map column_part q.0) (map column_part q.1)) ss) (λ t. (c.deref.ensures.value t, c.deref-2.ensures.value t)) lent in
    fit_tables c.in-Some.written.left.items c.in-Some.written.right.items (map relaid_column c.in_ok-left.left) (map relaid_column c.in_ok-left.right) (exec_view c.standard.result) ss c.in_ok-left.ensures.tables fits
