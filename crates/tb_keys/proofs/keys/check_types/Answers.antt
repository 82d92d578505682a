use Rattle.std.proofs.Common.{◌≡◌, ℕ, Bool, not, arith, sym, ◌∙◌, ap}
use Rattle.std.specs.Option.{option_map}
use Rattle.tb_value.specs.Promise.SameKind.{same_kind}
use Rattle.tb_value.specs.declared.error.PolarsError.TheVariants.{ComputeError}
use Rattle.tb_value.specs.declared.error.ComputeCause.TheVariants.{KeyTypes}
use Rattle.tb_value.proofs.Finds.{find_row_more, find_row_stop}
use Rattle.tb_frame.specs.Promise.Join.{Request}
use Rattle.tb_frame.specs.Promise.Refusal.{kind_at}
use Rattle.tb_keys.specs.Asked.{asked_request}
use Rattle.tb_keys.proofs.KeyFields.{place_kind}
use Rattle.tb_keys.proofs.keys.check_types.Goals as goal
use Rattle.tb_keys.proofs.keys.check_types.Goals.{After-same_type}

abbrev differ_at : Request → ℕ → Bool
differ_at q p = not (same_kind (kind_at q.left_keys p) (kind_at q.right_keys p))

here : (c : After-same_type) → not c.same_type.result ≡ differ_at (asked_request c.args.request.now) c.loop-place.place
here c =
    let r = c.args.request.now in
    let left = place_kind r.left_keys.now c.loop-place.place c.index-request-place.result (omega arith) in
    let right = place_kind r.right_keys.now c.loop-place.place c.index-request-place-in-loop-place.result (omega arith) in
    ap not (c.same_type.ensures ∙ (λ t. same_kind (left t) (right t)))

pub returns-then-not-same_type : goal.returns-then-not-same_type
returns-then-not-same_type c = ap (option_map (λ (p : ℕ). ComputeError (KeyTypes p)))
    (find_row_stop (differ_at (asked_request c.args.request.now)) c.loop-place.place _ (omega arith) c.loop-place.invariant
    (sym (here (goal.at.returns-then-not-same_type c).After-same_type) ∙ ap not c.if-not-same_type.true))

pub loop-place-preserved : goal.loop-place-preserved
loop-place-preserved c = find_row_more (differ_at (asked_request c.args.request.now)) c.loop-place.place c.places-place-end.result c.loop-place-test.true c.loop-place.invariant
    (sym (here (goal.at.loop-place-preserved c).After-same_type) ∙ ap not c.if-not-same_type.false)
