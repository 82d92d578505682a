use Rattle.std.proofs.Common.{◌≡◌, ◌⊎◌, None, Option, Some, refl, subst, sym}
use Rattle.std.specs.Prelude.{IfOk}
use Rattle.std.proofs.lemmas.Result.{err_from_is_err_and}
use Rattle.tb_value.specs.Refusals.{Settles}
use Rattle.tb_value.specs.declared.error.PolarsError.{PolarsError}
use Rattle.tb_value.specs.declared.error.PolarsError.TheVariants.{OutOfMemory}
use Rattle.tb_chunk.specs.Lent.{lent_columns}
use Rattle.tb_frame.specs.Answer.{ArePairsOf}
use Rattle.tb_frame.specs.Promise.Join.{IsAnswer, Request}
use Rattle.tb_frame.specs.Join.{lent_request}
use Rattle.tb_frame.specs.Promise.Refusal.{join_refusal}
use Rattle.tb_frame.specs.Promise.Table.{table_of}
use Rattle.tb_keys.specs.Asked.{asked_request}
use Rattle.tb_keys.specs.Causes.{later_refusal}
use Rattle.tb_keys.specs.declared.request.NamedRequest.{NamedRequest}
use Rattle.tb_keys.proofs.Refusing.{by_first, by_none, by_second, two_causes}
use Rattle.tb_join.proofs.NamedKeys.{keys_as_many, keys_there}
use Rattle.tb_alone.proofs.joined.join_alone.Goals as goal
use Rattle.tb_alone.proofs.joined.join_alone.Goals.{After-with_keys-request}

pub returns-in_err-keys : goal.returns-in_err-keys
returns-in_err-keys c =
    let q = lent_request c.args.left.now c.args.right.now c.args.left_on.now c.args.right_on.now c.args.args.now in
    let p = err_from_is_err_and c.from_residual.result c.from_residual.ensures.1 in
    rw (p.1, p.2) (record { settles = by_first (join_refusal q) _ _ _ _ (two_causes q) refl c.in_err-keys.ensures.settles; answer = tt })

pub with_keys-request-requires-clause-left : goal.with_keys-request-requires-clause-left
with_keys-request-requires-clause-left c = c.in_ok-keys.ensures.left

pub with_keys-request-requires-clause-right : goal.with_keys-request-requires-clause-right
with_keys-request-requires-clause-right c = c.in_ok-keys.ensures.right

pub checked_pairs-requires : goal.checked_pairs-requires
checked_pairs-requires c =
    let n : NamedRequest = record { left = c.args.left; right = c.args.right; left_on = c.args.left_on; right_on = c.args.right_on; args = c.args.args } in
    let lent = c.with_keys-request in
    let keys = c.in_ok-keys.ensures in
    let ls = lent_columns c.in_ok-keys.keys.left.items in
    let rs = lent_columns c.in_ok-keys.keys.right.items in
    record { some = keys_there n lent.result ls rs lent.ensures.asked keys.settles keys.left keys.right; as_many = keys_as_many n lent.result ls rs lent.ensures.asked keys.settles keys.left keys.right }

pub returns-in_err-pairs : goal.returns-in_err-pairs
returns-in_err-pairs c =
    let q = lent_request c.args.left.now c.args.right.now c.args.left_on.now c.args.right_on.now c.args.args.now in
    let p = err_from_is_err_and c.from_residual-in_err-pairs.result c.from_residual-in_err-pairs.ensures.1 in
    let later = subst (λ (q : Request). (c.in_err-pairs.field-0.0 ≡ OutOfMemory) ⊎ (later_refusal q ≡ Some c.in_err-pairs.field-0.0))
    c.with_keys-request.ensures.asked c.in_err-pairs.ensures.settles in
    rw (p.1, p.2) (record { settles = by_second _ _ _ _ (two_causes q) c.in_ok-keys.ensures.settles later; answer = tt })

pub answer_table-requires-clause-named : goal.answer_table-requires-clause-named
answer_table-requires-clause-named c = c.with_keys-request.ensures.named

-- where nothing refuses the request by names, it is valid
valid : (c : After-with_keys-request) → later_refusal (asked_request c.with_keys-request.result) ≡ None
    → join_refusal (lent_request c.args.left.now c.args.right.now c.args.left_on.now c.args.right_on.now c.args.args.now) ≡ None
valid c h =
    let q = lent_request c.args.left.now c.args.right.now c.args.left_on.now c.args.right_on.now c.args.args.now in
    by_none _ _ _ (two_causes q) c.in_ok-keys.ensures.settles (subst (λ (q : Request). later_refusal q ≡ None) c.with_keys-request.ensures.asked h)

pub answer_table-requires-clause-valid : goal.answer_table-requires-clause-valid
answer_table-requires-clause-valid c =
    let d = (goal.at.answer_table-requires-clause-valid c).After-with_keys-request in
    subst (λ (q : Request). join_refusal q ≡ None) (sym c.with_keys-request.ensures.asked) (valid d c.in_ok-pairs.ensures.settles)

pub answer_table-requires-clause-listed : goal.answer_table-requires-clause-listed
answer_table-requires-clause-listed c =
    subst (ArePairsOf (asked_request c.with_keys-request.result)) (sym c.deref.ensures.value) c.in_ok-pairs.ensures.listed

pub returns : goal.returns
returns c =
    let d = (goal.at.returns c).After-with_keys-request in
    record {
      settles = subst (λ (o : Option PolarsError). Settles c.answer_table.result o) (sym (valid d c.in_ok-pairs.ensures.settles)) c.answer_table.ensures.settles;
      answer = subst (λ (q : Request). IfOk c.answer_table.result (λ t. IsAnswer q (table_of t))) c.with_keys-request.ensures.asked c.answer_table.ensures.answer;
    }
