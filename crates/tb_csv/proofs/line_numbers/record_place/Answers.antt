use Rattle.std.proofs.Common.{arith, false, refl, sym, true, ◌∙◌, ◌<◌, ◌≡◌, ◌+◌}
use Rattle.tb_csv.specs.Places.{state_at}
use Rattle.tb_csv.specs.Promise.LineNumbers.{begins_record}
use Rattle.tb_csv.specs.Promise.Records.{form}
use Rattle.tb_csv.proofs.LineWalks.{found_here, none_there, one_less, passed}
use Rattle.tb_csv.proofs.line_numbers.record_place.Goals as goal
use Rattle.tb_csv.proofs.line_numbers.record_place.Goals.{then-begins_record+else-before-eq0, else-begins_record}

pub returns-then-before-eq0-clause-place : goal.returns-then-before-eq0-clause-place
returns-then-before-eq0-clause-place c =
    found_here begins_record (form c.args.separator) (state_at c.loop-i.place) _ c.args.text.now c.loop-i.i c.loop-i-test.true c.after-next.ensures.0 true
    (sym c.if-begins_record.true ∙ c.begins_record.ensures) c.loop-i.before _ refl c.if-before-eq0.true c.loop-i.invariant

pub loop-i-preserved : goal.loop-i-preserved
loop-i-preserved c =
    let cfg = form c.args.separator in
    elim c.if-begins_record.branch [
      | then-begins_record+else-before-eq0 w ↦
          let some : 0 < c.loop-i.before = omega (arith, w.if-before-eq0.false) in
          let less : c.if-begins_record.before + 1 ≡ c.loop-i.before = omega (arith, w.before-is) in
          one_less begins_record cfg (state_at c.loop-i.place) _ c.args.text.now c.loop-i.i c.loop-i-test.true c.after-next.ensures.0 true
          (sym w.if-begins_record.true ∙ c.begins_record.ensures) c.loop-i.before c.if-begins_record.before _ refl some less c.loop-i.invariant
      | else-begins_record w ↦
          rw w.before-is (passed begins_record cfg (state_at c.loop-i.place) _ c.args.text.now c.loop-i.i c.loop-i-test.true c.after-next.ensures.0 false
          (sym w.if-begins_record.false ∙ c.begins_record.ensures) c.loop-i.before _ refl c.loop-i.invariant)
    ]

pub returns-clause-place : goal.returns-clause-place
returns-clause-place c = none_there begins_record (form c.args.separator) (state_at c.loop-i.place) c.args.text.now c.loop-i.i c.loop-i.before _ c.loop-i-test.false c.loop-i.invariant
