use Rattle.std.proofs.Common.{◌≡◌, subst}
use Rattle.std.specs.Prelude.{IfOk}
use Rattle.tb_frame.specs.Promise.Table.{Table, table_of}
use Rattle.tb_unpivot.specs.Promise.Unpivot.{unpivot_refusal, unpivot_table}
use Rattle.tb_unpivot.proofs.Answered.{asked_of}
use Rattle.tb_unpivot.proofs.Causes.{settled}
use Rattle.tb_unpivot.proofs.frame_unpivot.UnpivotDF.unpivot2.Goals as goal

pub returns-clause-settles : goal.returns-clause-settles
returns-clause-settles g c =
    settled c.unpivoted.result _ _
    (λ t. unpivot_refusal (asked_of (c.to_df.ensures t) (c.deref.ensures.value t) (c.deref-2.ensures.value t) (c.name_or-variable.ensures t) (c.name_or-value.ensures t)))
    c.unpivoted.ensures.settles

pub returns-clause-table : goal.returns-clause-table
returns-clause-table g c =
    subst (λ (x : Table). IfOk c.unpivoted.result (λ t. table_of t ≡ x))
    (λ t. unpivot_table (asked_of (c.to_df.ensures t) (c.deref.ensures.value t) (c.deref-2.ensures.value t) (c.name_or-variable.ensures t) (c.name_or-value.ensures t)))
    c.unpivoted.ensures.table
