use Rattle.std.proofs.Common.{subst}
use Rattle.tb_frame.specs.declared.args.JoinArgs.{JoinArgs}
use Rattle.tb_frame.specs.Join.{lent_request}
use Rattle.tb_keys.specs.Promise.Answers.{IsJoinOf}
use Rattle.tb_join.proofs.frame_join.DataFrameJoinOps.inner_join.Goals as goal

pub returns : goal.returns
returns g c =
    subst (λ (a : JoinArgs). IsJoinOf (lent_request (g.Self.IntoDf.frame c.args.self.now) c.args.other.now c.args.left_on.now c.args.right_on.now a) c.join.result) c.new-args.ensures c.join.ensures
