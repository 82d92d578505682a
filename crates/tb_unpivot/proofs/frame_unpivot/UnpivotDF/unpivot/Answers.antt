use Rattle.std.proofs.Common.{◌≡◌, List, ap, subst}
use Rattle.std.specs.Prelude.{IfOk, codes}
use Rattle.tb_chunk.specs.Promise.Col.{Col}
use Rattle.tb_frame.specs.Promise.Table.{Table, table_of}
use Rattle.tb_unpivot.specs.Promise.Unpivot.{unpivot_refusal, unpivot_table}
use Rattle.tb_unpivot.proofs.Answered.{asked_of}
use Rattle.tb_unpivot.proofs.Causes.{settled}
use Rattle.tb_unpivot.proofs.frame_unpivot.UnpivotDF.unpivot.Goals as goal

pub returns-clause-settles : goal.returns-clause-settles
returns-clause-settles g c =
    settled c.unpivoted.result _ _ (ap (λ (cs : List Col). unpivot_refusal (asked_of cs c.args.on.now c.args.index.now (codes "variable") (codes "value"))) c.to_df.ensures) c.unpivoted.ensures.settles

pub returns-clause-table : goal.returns-clause-table
returns-clause-table g c =
    subst (λ (x : Table). IfOk c.unpivoted.result (λ t. table_of t ≡ x))
    (ap (λ (cs : List Col). unpivot_table (asked_of cs c.args.on.now c.args.index.now (codes "variable") (codes "value"))) c.to_df.ensures)
    c.unpivoted.ensures.table
