use Rattle.std.proofs.Common.{◌≡◌, length, arith, sym, ◌∙◌, ap}
use Rattle.tb_value.proofs.RowNumbers.{all_more, all_stop}
use Rattle.tb_value.specs.Promise.Same.{agrees}
use Rattle.tb_chunk.specs.Promise.Col.{Col, values}
use Rattle.tb_frame.specs.Promise.Table.{table_of, height}
use Rattle.tb_keys.specs.Asked.{asked_request}
use Rattle.tb_keys.proofs.KeyFields.{place_field, place_has, agrees_at, match_to}
use Rattle.tb_keys.proofs.agreeing.rows_match.Goals as goal
use Rattle.tb_keys.proofs.agreeing.rows_match.Goals.{After-agree}

-- what the call answered is what the two fields at the place answer
here : (c : After-agree) → c.agree.result ≡ agrees_at (asked_request c.args.request.now) c.args.i c.args.j c.loop-p.p
here c =
    let r = c.args.request.now in
    let left = c.get-left.ensures.value ∙ place_field r.left_keys.now c.loop-p.p c.index-request-p.result (omega arith) c.args.i in
    let right = c.get-right.ensures.value ∙ place_field r.right_keys.now c.loop-p.p c.index-request-p-in-loop-p.result (omega arith) c.args.j in
    c.agree.ensures ∙ (λ t. agrees (c.flag_at.ensures t) (left t) (right t))

pub returns-then-not-agree : goal.returns-then-not-agree
returns-then-not-agree c =
    let q = asked_request c.args.request.now in
    all_stop (agrees_at q c.args.i c.args.j) c.loop-p.p c.places-p-end.result c.loop-p-test.true (sym (here (goal.at.returns-then-not-agree c).After-agree) ∙ c.if-not-agree.true)
    ∙ ap (match_to q c.args.i c.args.j) c.places-p-end.ensures.exact

pub loop-p-preserved : goal.loop-p-preserved
loop-p-preserved c = all_more (agrees_at (asked_request c.args.request.now) c.args.i c.args.j) c.loop-p.p c.loop-p.invariant (sym (here (goal.at.loop-p-preserved c).After-agree) ∙ c.if-not-agree.false)

pub get-left-requires : goal.get-left-requires
get-left-requires c =
    let r = c.args.request.now in
    let long = place_has r.left_keys.now c.loop-p.p c.index-request-p.result (omega arith) (λ (k : Col). length (values k) ≡ height (table_of r.left.now)) r.left_rows in
    omega (arith, long)

pub get-right-requires : goal.get-right-requires
get-right-requires c =
    let r = c.args.request.now in
    let long = place_has r.right_keys.now c.loop-p.p c.index-request-p-in-loop-p.result (omega arith) (λ (k : Col). length (values k) ≡ height (table_of r.right.now)) r.right_rows in
    omega (arith, long)
