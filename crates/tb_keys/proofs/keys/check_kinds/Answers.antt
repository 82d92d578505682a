use Rattle.std.proofs.Common.{◌≡◌, ℕ, Bool, not, arith, sym, ◌∙◌, ap}
use Rattle.std.specs.Option.{option_map}
use Rattle.tb_value.specs.Promise.SameKind.{is_key}
use Rattle.tb_value.specs.declared.error.PolarsError.TheVariants.{InvalidOperation}
use Rattle.tb_value.specs.declared.error.InvalidCause.TheVariants.{KeyKind}
use Rattle.tb_value.proofs.Finds.{find_row_more, find_row_stop}
use Rattle.tb_frame.specs.Promise.Join.{Request}
use Rattle.tb_frame.specs.Promise.Refusal.{kind_at}
use Rattle.tb_keys.specs.Asked.{asked_request}
use Rattle.tb_keys.proofs.KeyFields.{place_kind}
use Rattle.tb_keys.proofs.keys.check_kinds.Goals as goal
use Rattle.tb_keys.proofs.keys.check_kinds.Goals.{After-is_key}

abbrev no_key_at : Request → ℕ → Bool
no_key_at q p = not (is_key (kind_at q.left_keys p))

here : (c : After-is_key) → not c.is_key.result ≡ no_key_at (asked_request c.args.request.now) c.loop-place.place
here c =
    let k = c.dtype.ensures ∙ place_kind c.args.request.now.left_keys.now c.loop-place.place c.index-request-place.result (omega arith) in
    ap not (c.is_key.ensures ∙ ap is_key k)

pub returns-then-not-is_key : goal.returns-then-not-is_key
returns-then-not-is_key c = ap (option_map (λ (p : ℕ). InvalidOperation (KeyKind p)))
    (find_row_stop (no_key_at (asked_request c.args.request.now)) c.loop-place.place _ (omega arith) c.loop-place.invariant
    (sym (here (goal.at.returns-then-not-is_key c).After-is_key) ∙ ap not c.if-not-is_key.true))

pub loop-place-preserved : goal.loop-place-preserved
loop-place-preserved c = find_row_more (no_key_at (asked_request c.args.request.now)) c.loop-place.place c.places-place-end.result c.loop-place-test.true c.loop-place.invariant
    (sym (here (goal.at.loop-place-preserved c).After-is_key) ∙ ap not c.if-not-is_key.false)
