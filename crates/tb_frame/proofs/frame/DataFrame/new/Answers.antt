use Rattle.std.proofs.Common.{◌≡◌, List, subst, None}
use Rattle.std.specs.Prelude.{All}
use Rattle.tb_chunk.specs.Promise.Col.{Col}
use Rattle.tb_frame.specs.Promise.Table.{table_of, IsTyped}
use Rattle.tb_frame.specs.Frame.{frame_refusal}
use Rattle.tb_frame.proofs.Frames.{makes_frame}
use Rattle.tb_frame.proofs.frame.DataFrame.new.Goals as goal

pub invariant_of-result : goal.invariant_of-result
invariant_of-result c =
    makes_frame (table_of c.args.columns.items)
    (subst (λ (cs : List Col). All IsTyped (table_of cs)) c.deref.ensures.value c.in_ok-check_columns.ensures.typed)
    (subst (λ (cs : List Col). frame_refusal (table_of cs) ≡ None) c.deref.ensures.value c.in_ok-check_columns.ensures.settles)

pub returns-clause-table : goal.returns-clause-table
returns-clause-table c =
    makes_frame (table_of c.args.columns.items)
    (subst (λ (cs : List Col). All IsTyped (table_of cs)) c.deref.ensures.value c.in_ok-check_columns.ensures.typed)
    (subst (λ (cs : List Col). frame_refusal (table_of cs) ≡ None) c.deref.ensures.value c.in_ok-check_columns.ensures.settles)
