use Rattle.std.proofs.Common.{List, subst}
use Rattle.std.specs.Prelude.{All, IfOk}
use Rattle.tb_chunk.specs.Promise.Col.{Col}
use Rattle.tb_frame.specs.Promise.Table.{schema_of, table_of}
use Rattle.tb_delta.specs.Running.{steps_of}
use Rattle.tb_delta_front.specs.Promise.Steps.{Fits}
use Rattle.tb_delta_front.proofs.deltas.read_steps.Goals as goal

pub returns-clause-fit : goal.returns-clause-fit
returns-clause-fit c =
    subst (λ (p : List Col × List Col). IfOk c.steps_of.result (λ v. All (Fits (schema_of (table_of p.0)) (schema_of (table_of p.1))) (steps_of v.items)))
    (λ i. (c.get_columns-left.ensures.columns i, c.get_columns-right.ensures.columns i)) c.steps_of.ensures.fit
