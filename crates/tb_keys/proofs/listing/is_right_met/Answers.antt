use Rattle.std.proofs.Common.{arith, sym, ◌∙◌}
use Rattle.tb_value.proofs.RowNumbers.{any_more, any_stop}
use Rattle.tb_frame.specs.Promise.Join.{matches}
use Rattle.tb_keys.specs.Asked.{asked_request}
use Rattle.tb_keys.proofs.listing.is_right_met.Goals as goal

pub returns-then-rows_match : goal.returns-then-rows_match
returns-then-rows_match c = any_stop (λ i. matches (asked_request c.args.request.now) i c.args.j) c.loop-i.i _ (omega arith) (sym c.rows_match.ensures ∙ c.if-rows_match.true)

pub loop-i-preserved : goal.loop-i-preserved
loop-i-preserved c = any_more (λ i. matches (asked_request c.args.request.now) i c.args.j) c.loop-i.i c.loop-i.invariant (sym c.rows_match.ensures ∙ c.if-rows_match.false)
