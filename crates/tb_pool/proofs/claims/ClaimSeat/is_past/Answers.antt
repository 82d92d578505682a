use Rattle.std.proofs.Common.{ap, ◌∙◌, nat_lt}
use Rattle.tb_pool.specs.Core.{late_count}
use Rattle.tb_pool.specs.Running.{SeatView}
use Rattle.tb_pool.proofs.Steps.{told}
use Rattle.tb_pool.proofs.claims.ClaimSeat.is_past.Goals as goal

pub returns : goal.returns
returns c = told c.self.inside.past (late_count c.args.self.now.bound c.args.self.now.drawn) (c.self.invariant.2 ∙ ap (λ (v : SeatView). nat_lt 0 (late_count v.bound v.drawn)) c.self.view_is)
