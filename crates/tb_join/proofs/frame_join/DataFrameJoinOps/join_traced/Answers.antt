use Rattle.std.proofs.Common.{List, subst}
use Rattle.tb_chunk.specs.Promise.Col.{Col}
use Rattle.tb_join.specs.Promise.Traced.{IsTracedJoinOf}
use Rattle.tb_join.proofs.frame_join.DataFrameJoinOps.join_traced.Goals as goal

pub returns : goal.returns
returns g c =
    let lets_in = g.G.Gate.lets_in c.args.gate.now in
    subst (λ (cs : List Col). IsTracedJoinOf cs c.args.other.now c.args.left_on.now c.args.right_on.now c.args.args c.args.exec.now lets_in c.join_tables.result) c.to_df.ensures c.join_tables.ensures
