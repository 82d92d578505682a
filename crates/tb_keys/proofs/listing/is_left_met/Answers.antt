use Rattle.std.proofs.Common.{arith, sym, ◌∙◌}
use Rattle.tb_value.proofs.RowNumbers.{any_more, any_stop}
use Rattle.tb_frame.specs.Promise.Join.{matches}
use Rattle.tb_keys.specs.Asked.{asked_request}
use Rattle.tb_keys.proofs.listing.is_left_met.Goals as goal

pub returns-then-rows_match : goal.returns-then-rows_match
returns-then-rows_match c = any_stop (matches (asked_request c.args.request.now) c.args.i) c.loop-j.j _ (omega arith) (sym c.rows_match.ensures ∙ c.if-rows_match.true)

pub loop-j-preserved : goal.loop-j-preserved
loop-j-preserved c = any_more (matches (asked_request c.args.request.now) c.args.i) c.loop-j.j c.loop-j.invariant (sym c.rows_match.ensures ∙ c.if-rows_match.false)
