use Rattle.std.proofs.Common.{◌≡◌, length, arith, sym, ◌∙◌, ap}
use Rattle.tb_value.specs.Promise.Same.{same}
use Rattle.tb_value.proofs.RowNumbers.{all_more, all_stop}
use Rattle.tb_frame.specs.Promise.Table.{table_of}
use Rattle.tb_chunk.proofs.Lent.{lent_has}
use Rattle.tb_chunk.specs.Lent.{lent_columns}
use Rattle.tb_keys.specs.Rows.{HasRow}
use Rattle.tb_keys.proofs.KeyFields.{lent_field, lent_many, same_at, same_to}
use Rattle.tb_keys.proofs.validation.same_keys.Goals as goal
use Rattle.tb_keys.proofs.validation.same_keys.Goals.{After-same_value}

here : (c : After-same_value) → c.same_value.result ≡ same_at (table_of (lent_columns c.args.keys.now)) c.args.i c.args.j c.loop-p.p
here c =
    let a = c.get.ensures.value ∙ lent_field c.args.keys.now c.loop-p.p c.index-keys-p.result (omega arith) c.index-keys-p.is c.args.i in
    let b = c.get-in-loop-p.ensures.value ∙ lent_field c.args.keys.now c.loop-p.p c.index-keys-p-in-loop-p.result (omega arith) c.index-keys-p-in-loop-p.is c.args.j in
    c.same_value.ensures ∙ (λ t. same (a t) (b t))

pub get-requires : goal.get-requires
get-requires c = lent_has c.args.keys.now c.loop-p.p c.index-keys-p.result c.loop-p-test.true c.index-keys-p.is (HasRow c.args.i) c.requires.first

pub get-requires-in-loop-p : goal.get-requires-in-loop-p
get-requires-in-loop-p c = lent_has c.args.keys.now c.loop-p.p c.index-keys-p-in-loop-p.result c.loop-p-test.true c.index-keys-p-in-loop-p.is (HasRow c.args.j) c.requires.second

pub returns-then-not-same_value : goal.returns-then-not-same_value
returns-then-not-same_value c =
    let keys = table_of (lent_columns c.args.keys.now) in
    let long = lent_many c.args.keys.now in
    all_stop (same_at keys c.args.i c.args.j) c.loop-p.p (length keys) (omega (arith, long)) (sym (here (goal.at.returns-then-not-same_value c).After-same_value) ∙ c.if-not-same_value.true)

pub loop-p-preserved : goal.loop-p-preserved
loop-p-preserved c = all_more (same_at (table_of (lent_columns c.args.keys.now)) c.args.i c.args.j) c.loop-p.p c.loop-p.invariant
    (sym (here (goal.at.loop-p-preserved c).After-same_value) ∙ c.if-not-same_value.false)

pub returns : goal.returns
returns c =
    let keys = table_of (lent_columns c.args.keys.now) in
    let long = lent_many c.args.keys.now in
    let all : c.loop-p.p ≡ length keys = omega (arith, long) in
    sym (ap (same_to keys c.args.i c.args.j) (sym all) ∙ c.loop-p.invariant)
