use Rattle.std.proofs.Common.{◌≡◌, ◌∙◌, List, subst}
use Rattle.std.specs.Prelude.{IfOk}
use Rattle.tb_value.specs.Promise.Datum.{Datum}
use Rattle.tb_value.specs.Promise.Kind as kind
use Rattle.tb_chunk.specs.Lent.{lent_columns}
use Rattle.tb_chunk.specs.View.{texts}
use Rattle.tb_frame.specs.Promise.Table.{plain_column}
use Rattle.tb_unpivot.proofs.Lists.{names_each, names_few}
use Rattle.tb_unpivot.proofs.columns.variable_column.Goals as goal

pub text_column-requires-clause-few : goal.text_column-requires-clause-few
text_column-requires-clause-few c =
    let chunk = c.in_ok-chunk.chunk in
    names_few (texts chunk.inner.buffers.items chunk.inner.views.items) c.args.columns.now c.in_ok-chunk.ensures.names c.requires

pub returns : goal.returns
returns c =
    subst (λ (vs : List Datum). IfOk c.text_column.result (λ d. plain_column d ≡ record { name = c.args.name; kind = kind.string; values = vs })) (c.in_ok-chunk.ensures.names ∙ names_each (lent_columns c.args.columns.now)) c.text_column.ensures
