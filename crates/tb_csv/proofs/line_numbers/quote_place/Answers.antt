use Rattle.std.proofs.Common.{false, refl, sym, true, ◌∙◌}
use Rattle.tb_csv.specs.Places.{state_at}
use Rattle.tb_csv.specs.Promise.LineNumbers.{last, opens_field, quote_places}
use Rattle.tb_csv.specs.Promise.Records.{form}
use Rattle.tb_csv.proofs.LineWalks.{last_there, later_here, later_passed}
use Rattle.tb_csv.proofs.line_numbers.quote_place.Goals as goal
use Rattle.tb_csv.proofs.line_numbers.quote_place.Goals.{then-opens_field, else-opens_field}

pub loop-i-preserved : goal.loop-i-preserved
loop-i-preserved c =
    let inv = c.loop-i.invariant in
    let cfg = form c.args.separator in
    elim c.if-opens_field.branch [
      | then-opens_field w ↦ rw w.found-is (
        later_here opens_field cfg (state_at c.loop-i.place) _ c.args.text.now c.loop-i.i c.loop-i-test.true c.after-next.ensures.0 true (sym w.if-opens_field.true ∙ c.opens_field.ensures)
            c.loop-i.found _ refl inv.0,
        c.loop-i-test.true,
      )
      | else-opens_field w ↦ rw w.found-is (
        later_passed opens_field cfg (state_at c.loop-i.place) _ c.args.text.now c.loop-i.i c.loop-i-test.true c.after-next.ensures.0 false (sym w.if-opens_field.false ∙ c.opens_field.ensures)
            c.loop-i.found _ refl inv.0,
        inv.1,
      )
    ]

pub returns-clause-place : goal.returns-clause-place
returns-clause-place c = last_there opens_field (form c.args.separator) (state_at c.loop-i.place) c.args.text.now c.loop-i.i c.loop-i.found (last (quote_places c.args.separator c.args.text.now)) c.loop-i-test.false c.loop-i.invariant.0
