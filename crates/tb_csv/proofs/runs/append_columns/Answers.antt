use Rattle.std.proofs.Common.{◌≡◌, ◌≤◌, ◌++◌, ◌∙◌, ap, arith, drop, length, subst, sym, take}
use Rattle.tb_csv.specs.Read.{AreAppended}
use Rattle.tb_csv.proofs.JoinedColumns.{all_appended, none_appended, one_appended}
use Rattle.tb_csv.proofs.runs.append_columns.Goals as goal

pub loop-place-init : goal.loop-place-init
loop-place-init c = none_appended c.deref_mut-column-items.result.now c.args.others.now

pub loop-place-preserved : goal.loop-place-preserved
loop-place-preserved c =
    one_appended c.deref_mut-column-items.result.now c.args.others.now c.loop-place.place c.loop-place.column-items c.column-item.result c.index-others-place.result c.append.new.self c.loop-place.invariant
    (omega arith) (c.requires ∙ sym (ap length c.deref_mut-column-items.ensures.value)) c.index-others-place.is c.in_ok-append.ensures

pub returns : goal.returns
returns c =
    let is = c.deref_mut-column-items.ensures.value in
    let first = c.deref_mut-column-items.result.now in
    let others = c.args.others.now in
    let len = c.args.columns.now.len in
    let all = c.loop-place.column-items in
    let high : length first ≤ c.loop-place.place = c.loop-place-test.false in
    let full : len ≡ length first = omega (arith, c.args.columns.now.ok.0, ap length is) in
    subst (λ old. AreAppended old others (take len (all ++ drop (length all) old))) is (all_appended first others c.loop-place.place len all c.loop-place.invariant (c.requires ∙ sym (ap length is)) high full)
