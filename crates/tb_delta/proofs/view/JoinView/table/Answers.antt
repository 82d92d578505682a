use Rattle.std.proofs.Common.{◌≡◌, ◌∙◌, inr, [], ◌∷◌, length, nat_lt, true, Option, None, ap, sym, subst}
use Rattle.std.specs.Prelude.{IfOk}
use Rattle.tb_value.specs.Promise.Refusals.{when}
use Rattle.tb_value.specs.Refusals.{Settles}
use Rattle.tb_value.specs.declared.error.ComputeCause.TheVariants.{TooManyRows}
use Rattle.tb_value.specs.declared.error.PolarsError.{PolarsError}
use Rattle.tb_value.specs.declared.error.PolarsError.TheVariants.{ComputeError}
use Rattle.tb_value.specs.declared.limits.TheConstants.{MAX_ROWS}
use Rattle.tb_frame.specs.Join.{lent_request}
use Rattle.tb_frame.specs.Promise.Join.{IsAnswer, Request, by_names, listing}
use Rattle.tb_frame.specs.Promise.Refusal.{join_refusal, too_many_rows}
use Rattle.tb_frame.specs.Promise.Table.{table_of}
use Rattle.tb_delta.specs.Inside.{state_of}
use Rattle.tb_delta.specs.Promise.Now.{now}
use Rattle.tb_delta.specs.Promise.State.{State}
use Rattle.tb_delta.proofs.Counted.{counted}
use Rattle.tb_delta.proofs.Schemas.{rowless}
use Rattle.tb_delta.proofs.TablesNow.{rows_alone}
use Rattle.tb_delta.proofs.view.JoinView.table.Goals as goal

pub returns-then-are_too_many-clause-settles : goal.returns-then-are_too_many-clause-settles
returns-then-are_too_many-clause-settles g c =
    let st : State = state_of c.self.inside.left c.self.inside.right c.self.inside.join_nulls in
    let many : nat_lt MAX_ROWS (length (listing (now st))) ≡ true = ap (nat_lt MAX_ROWS) (counted c.self.inside.left c.self.inside.right c.self.inside.join_nulls c.self.inside.groups c.self.invariant) ∙ sym c.are_too_many.ensures ∙ c.if-are_too_many.true in
    inr (ap (λ (v : State). too_many_rows (now v)) (sym c.self.view_is) ∙ ap (λ b. when b (ComputeError TooManyRows)) many)

pub returns-clause-settles : goal.returns-clause-settles
returns-clause-settles g c =
    let st : State = state_of c.self.inside.left c.self.inside.right c.self.inside.join_nulls in
    let is : by_names (table_of c.in_ok-left.left) (table_of c.in_ok-right.right) (c.in_ok-copy.field-0 ∷ []) (c.in_ok-copy-2.field-0 ∷ []) c.kept_args-args.result ≡ now st =
    λ t. by_names (c.in_ok-left.ensures t) (c.in_ok-right.ensures t) (c.in_ok-copy.ensures t ∷ []) (c.in_ok-copy-2.ensures t ∷ []) (c.kept_args-args.ensures t) in
    subst (λ (o : Option PolarsError). Settles c.join.result o)
    (ap join_refusal is ∙ rows_alone st (rowless st ∙ c.self.invariant.kept.valid) ∙ ap (λ (v : State). too_many_rows (now v)) c.self.view_is)
    c.join.ensures.settles

pub returns-clause-answer : goal.returns-clause-answer
returns-clause-answer g c =
    let st : State = state_of c.self.inside.left c.self.inside.right c.self.inside.join_nulls in
    let is : by_names (table_of c.in_ok-left.left) (table_of c.in_ok-right.right) (c.in_ok-copy.field-0 ∷ []) (c.in_ok-copy-2.field-0 ∷ []) c.kept_args-args.result ≡ now st =
    λ t. by_names (c.in_ok-left.ensures t) (c.in_ok-right.ensures t) (c.in_ok-copy.ensures t ∷ []) (c.in_ok-copy-2.ensures t ∷ []) (c.kept_args-args.ensures t) in
    subst (λ (q : Request). IfOk c.join.result (λ t. IsAnswer q (table_of t))) (is ∙ ap now c.self.view_is) c.join.ensures.answer
